-- A tree of a program that `TreeReadings` knows is read without a fault.
use Rattle.std.proofs.Common.{◌≡◌, ℕ, zero, suc, ◌+◌, ◌≤◌, Bool, false, List, [], ◌∷◌, ◌++◌, length, slice_get, Option, None, Some, is_some, Result, Ok, Err, IfOk, if◌then◌else◌, ◌&&◌, nat_le, refl, sym, ap, ◌∙◌, subst, arith, le_refl, le_trans, length-append}
use Rattle.std.proofs.lemmas.Bool.{le-leb, le-ltb, or_parts}
use Rattle.std.specs.List.{list_any}
use Rattle.snap_names.specs.Declarations.{Field, Program, Components, Arrays, Atoms, Nodes, Weight, Declared, ports, env_of, field_senses, prefix_length, with_field, with_array, with_constant, with_let, declare, declare_all, core_program, greatest, capped, within, limited, resolved, is_field_known}
use Rattle.snap_core.specs.declared.program.Which.{Which}
use Rattle.snap_core.specs.Fields.{count, width}
use Rattle.snap_parse.specs.Tree.{DeclTree, SourceTree}
use Rattle.snap_names.specs.Senses.{Span, Sense, Array, Constant, Policy, NameFault, Twice, Prefix, Wide, Limit, Arities, after, or_fault, word, number_at, literal, is_address}
use Rattle.snap_names.specs.Core.{CorePolicy, core_policy, nodes, weight}
use Rattle.snap_names.specs.Reading.{read_policy}
use Rattle.snap_names.specs.Spells.{Scope, senses, before_text, is_known}
use Rattle.snap_core.proofs.FieldLemmas.{count-append}
use Rattle.snap_names.proofs.BoundedDeclared.{DeclaredFits, declare-fits, ports-fit}
use Rattle.snap_names.proofs.FaultlessDeclared.{fields-known, senses-short}
use Rattle.snap_names.proofs.ReadTrees.{Agrees}
use Rattle.snap_names.proofs.Readable.{after-gives, literal-gives}
use Rattle.snap_names.proofs.ReadableTrees.{Gives, policy-gives}
use Rattle.snap_names.proofs.TreeReadings.{IsLength, plain, split, Declares, field, array, const, body_of_let, DeclaresAll, no_more, one_more, IsProgramOf}

-- what a scope declares, behind these arities
abbrev declared_of : Scope → Arities → Declared
declared_of e seen = record { fields = e.fields; arrays = e.arrays; lets = e.lets; names = e.names; arities = seen }

unless-gives : {A : Type 0} (b : Bool) (f : NameFault) (r : Result A NameFault) → b ≡ false → (if b then Err f else r) ≡ r
unless-gives b f r h = ap (λ a. if a then Err f else r) h

one-unknown : (names : List (List ℕ × Sense)) (name : List ℕ) (s : Sense) → list_any {X = List ℕ × Sense} (λ x. is_known names x.0) ((name, s) ∷ []) ≡ false → is_known names name ≡ false
one-unknown names name s h = (or_parts (is_known names name) false h).0

prefix_length-gives : (text : List ℕ) (l : Option Span) (n : Option ℕ) → IsLength text l n → prefix_length text l ≡ Ok n
prefix_length-gives text _ _ plain = refl
prefix_length-gives text _ _ (split {t = t} {n = n} h a b) =
    after-gives (number_at text t) (λ n. if nat_le 1 n && nat_le n 31 then Ok (Some n) else Err (Prefix t.from)) n (ap (or_fault (Wide t.from)) h)
    ∙ ap (λ c. if c && nat_le n 31 then Ok (Some n) else Err (Prefix t.from)) (le-leb 1 n a)
    ∙ ap (λ c. if c then Ok (Some n) else Err (Prefix t.from)) (le-leb n 31 b)

IsLength-some : (text : List ℕ) (l : Option Span) (n : Option ℕ) → IsLength text l n → is_some l ≡ is_some n
IsLength-some text _ _ plain = refl
IsLength-some text _ _ (split h a b) = refl

-- what one declaration gives, behind which the names stand
record Given (e : Scope) (seen : Arities) (t : DeclTree) (d : Scope) (names : List (List ℕ × Sense)) : Type 0 where
  behind : Arities
  gives : declare e.text (declared_of e seen) t ≡ Ok (declared_of (record d { names = e.names ++ names }) behind)
  text : d.text ≡ e.text
  atoms : d.atoms ≡ e.atoms
  agrees : Agrees e.atoms behind

one-given : (e : Scope) (t : DeclTree) (d : Scope) (names : List (List ℕ × Sense)) → Declares e t d names → list_any (λ x. is_known e.names x.0) names ≡ false → count d.fields ≤ 64 → length d.arrays ≤ 64
    → (seen : Arities) → DeclaredFits ⊥ (declared_of e seen) → Agrees e.atoms seen → Given e seen t d names
one-given e _ _ _ (field {at = at} {t = t} {l = l} {n = n} is) new few few_arrays seen fits agrees =
    let name : List ℕ = word e.text t in
    let f : Field = record { name = name; prefix = n } in
    let counted : count (e.fields ++ f ∷ []) ≡ count e.fields + (width n + 0) = count-append e.fields (f ∷ []) in
    let unknown : is_field_known e.names name (is_some l) ≡ false =
    ap (λ b. is_field_known e.names name b) (IsLength-some e.text l n is) ∙ fields-known e.names (count e.fields) name n ∙ new in
    let same : field_senses (count e.fields) name n ≡ senses (count e.fields) name n = senses-short (count e.fields) name n (omega (arith, counted, few)) in
    record {
      behind = seen;
      gives =
          unless-gives (is_field_known e.names name (is_some l)) (Twice t.from) (after (prefix_length e.text l) (λ n. Ok (with_field (declared_of e seen) name n))) unknown
          ∙ after-gives (prefix_length e.text l) (λ n. Ok (with_field (declared_of e seen) name n)) n (prefix_length-gives e.text l n is)
          ∙ ap (λ more. Ok (declared_of (record e { fields = e.fields ++ f ∷ []; names = e.names ++ more }) seen)) same;
      text = refl;
      atoms = refl;
      agrees = agrees;
    }
one-given e _ _ _ (array {at = at} {t = t}) new few few_arrays seen fits agrees =
    record {
      behind = seen ++ None ∷ [];
      gives = unless-gives (is_known e.names (word e.text t)) (Twice t.from) (Ok (with_array (declared_of e seen) (word e.text t))) (one-unknown e.names (word e.text t) (Array (length e.arrays)) new);
      text = refl;
      atoms = refl;
      agrees = λ i n h. agrees i n (kept seen i n h);
    }
  where
    kept : (xs : Arities) (i n : ℕ) → slice_get (xs ++ None ∷ []) i ≡ Some (Some n) → slice_get xs i ≡ Some (Some n)
    kept [] zero n h = absurd (let no' : Some None ≡ Some (Some n) = h in cc)
    kept [] (suc i) n h = h
    kept (x ∷ xs) zero n h = h
    kept (x ∷ xs) (suc i) n h = kept xs i n h
one-given e _ _ _ (const {at = at} {n = n} {t = t} {l = l} is) new few few_arrays seen fits agrees =
    record {
      behind = seen;
      gives =
          unless-gives (is_known e.names (word e.text t)) (Twice t.from) (after (literal e.text l) (λ n. Ok (with_constant (declared_of e seen) (word e.text t) n (is_address l)))) (one-unknown e.names (word e.text t) (Constant n (is_address l)) new)
          ∙ after-gives (literal e.text l) (λ n. Ok (with_constant (declared_of e seen) (word e.text t) n (is_address l))) n (literal-gives e.text l n is);
      text = refl;
      atoms = refl;
      agrees = agrees;
    }
one-given e _ _ _ (body_of_let {at = at} {t = t} {b = b} {p = p} is) new few few_arrays seen fits agrees =
    let read : Gives e.atoms (read_policy (env_of e.text (declared_of e seen)) b seen) p = policy-gives (count e.fields) (length e.arrays) e fits.names (omega (arith, few_arrays)) b p is seen agrees in
    record {
      behind = read.0;
      gives =
          unless-gives (is_known e.names (word e.text t)) (Twice t.from) (after (read_policy (env_of e.text (declared_of e seen)) b seen) (λ x. Ok (with_let (declared_of e seen) (word e.text t) x))) (one-unknown e.names (word e.text t) (Policy (length e.lets)) new)
          ∙ after-gives (read_policy (env_of e.text (declared_of e seen)) b seen) (λ x. Ok (with_let (declared_of e seen) (word e.text t) x)) (p, read.0) read.1;
      text = refl;
      atoms = refl;
      agrees = read.2;
    }

one-more : (e : Scope) (t : DeclTree) (d : Scope) (names : List (List ℕ × Sense)) → Declares e t d names → (count e.fields ≤ count d.fields) × (length e.arrays ≤ length d.arrays)
one-more e _ _ _ (field {t = t} {n = n} is) =
    let counted : count (e.fields ++ record { name = word e.text t; prefix = n } ∷ []) ≡ count e.fields + (width n + 0) = count-append e.fields (record { name = word e.text t; prefix = n } ∷ []) in
    (omega (arith, counted), le_refl (length e.arrays))
one-more e _ _ _ (array {t = t}) = (le_refl (count e.fields), omega (arith, length-append e.arrays (word e.text t ∷ [])))
one-more e _ _ _ _ = (le_refl (count e.fields), le_refl (length e.arrays))

all-more : (e : Scope) (ts : List DeclTree) (f : Scope) → DeclaresAll e ts f → (count e.fields ≤ count f.fields) × (length e.arrays ≤ length f.arrays)
all-more e _ _ no_more = (le_refl (count e.fields), le_refl (length e.arrays))
all-more e _ f (one_more {d = d} {t = t} {ts = ts} {names = names} h new k) =
    let a = one-more e t d names h in
    let b = all-more (record d { names = e.names ++ names }) ts f k in
    (le_trans a.0 b.0, le_trans a.1 b.1)

-- what declarations give
record AllGiven (e : Scope) (seen : Arities) (ts : List DeclTree) (f : Scope) : Type 0 where
  behind : Arities
  gives : declare_all e.text ts (declared_of e seen) ≡ Ok (declared_of f behind)
  text : f.text ≡ e.text
  atoms : f.atoms ≡ e.atoms
  fits : DeclaredFits ⊥ (declared_of f behind)
  agrees : Agrees e.atoms behind

all-given : (e : Scope) (ts : List DeclTree) (f : Scope) → DeclaresAll e ts f → count f.fields ≤ 64 → length f.arrays ≤ 64 → (seen : Arities) → DeclaredFits ⊥ (declared_of e seen) → Agrees e.atoms seen → AllGiven e seen ts f
all-given e _ _ no_more few few_arrays seen fits agrees = record { behind = seen; gives = refl; text = refl; atoms = refl; fits = fits; agrees = agrees }
all-given e _ f (one_more {d = d} {t = t} {ts = ts} {names = names} h new k) few few_arrays seen fits agrees =
    let g : Scope = record d { names = e.names ++ names } in
    let more = all-more g ts f k in
    let one : Given e seen t d names = one-given e t d names h new (le_trans more.0 few) (le_trans more.1 few_arrays) seen fits agrees in
    let fit : DeclaredFits ⊥ (declared_of g one.behind) = subst (λ r. IfOk r (DeclaredFits ⊥)) one.gives (declare-fits ⊥ e.text (declared_of e seen) fits t (λ q. absurd q)) in
    let rest : AllGiven g one.behind ts f = all-given g ts f k few few_arrays one.behind fit (subst (λ a. Agrees a one.behind) (sym one.atoms) one.agrees) in
    record {
      behind = rest.behind;
      gives =
          after-gives (declare e.text (declared_of e seen) t) (declare_all e.text ts) (declared_of g one.behind) one.gives
          ∙ ap (λ x. declare_all x ts (declared_of g one.behind)) (sym one.text)
          ∙ rest.gives;
      text = rest.text ∙ one.text;
      atoms = rest.atoms ∙ one.atoms;
      fits = rest.fits;
      agrees = subst (λ a. Agrees a rest.behind) one.atoms rest.agrees;
    }

within-gives : {A : Type 0} (which : Which) (n most : ℕ) (r : Result A NameFault) → n ≤ most → within which n most r ≡ r
within-gives which n most r h = ap (λ b. if b then Err (Limit which (capped n)) else r) (le-ltb most n h)

greatest-few : (seen : Arities) (most : ℕ) → ((i n : ℕ) → slice_get seen i ≡ Some (Some n) → n ≤ most) → greatest seen ≤ most
greatest-few [] most h = omega arith
greatest-few (None ∷ seen) most h = greatest-few seen most (λ i n k. h (suc i) n k)
greatest-few (Some m ∷ seen) most h =
    let here : m ≤ most = h zero m refl in
    let rest : greatest seen ≤ most = greatest-few seen most (λ i n k. h (suc i) n k) in
    omega (arith, here, rest)

limited-gives : (d : Declared) (x : CorePolicy × Arities) → count d.fields ≤ 64 → length d.arrays ≤ 64 → greatest x.1 ≤ 8 → nodes x.0 ≤ 2000 → weight x.0 ≤ 16777216 → limited d x ≡ Ok (record { fields = d.fields; arrays = d.arrays; body = x.0 })
limited-gives d x a b c e f =
    within-gives Components (count d.fields) 64 _ a
    ∙ within-gives Arrays (length d.arrays) 64 _ b
    ∙ within-gives Atoms (greatest x.1) 8 _ c
    ∙ within-gives Nodes (nodes x.0) 2000 _ e
    ∙ within-gives Weight (weight x.0) 16777216 _ f

Agrees-nothing : (atoms : ℕ → ℕ) → Agrees atoms []
Agrees-nothing atoms i n k = cc

-- **A tree that is of a program is read as that program, without a fault.**
pub resolved-IsProgramOf : (text : List ℕ) (s : SourceTree) (p : Program) → IsProgramOf text s p → resolved text s ≡ Ok (core_program p)
resolved-IsProgramOf text s p h =
    let e : Scope = before_text text h.atoms in
    let f : Scope = h.scope in
    let few : count f.fields ≤ 64 = subst (λ fs. count fs ≤ 64) h.fields h.few_components in
    let few_arrays : length f.arrays ≤ 64 = subst (λ vs. length vs ≤ 64) h.arrays h.few_arrays in
    let given : AllGiven e [] s.decls f = all-given e s.decls f h.declared few few_arrays [] (ports-fit ⊥) (Agrees-nothing h.atoms) in
    let d : Declared = declared_of f given.behind in
    let agrees : Agrees f.atoms given.behind = subst (λ a. Agrees a given.behind) (sym given.atoms) given.agrees in
    let own : Gives f.atoms (read_policy (env_of f.text d) s.policy given.behind) (core_policy p.body) = policy-gives (count f.fields) (length f.arrays) f given.fits.names (omega (arith, few_arrays)) s.policy (core_policy p.body) h.body given.behind agrees in
    let read : Gives f.atoms (read_policy (env_of text d) s.policy given.behind) (core_policy p.body) = subst (λ x. Gives f.atoms (read_policy (env_of x d) s.policy given.behind) (core_policy p.body)) given.text own in
    let most : greatest read.0 ≤ 8 = greatest-few read.0 8 (λ i n k. at_most (read.2 i n k ∙ ap (λ a. a i) given.atoms) (h.few_atoms i)) in
    after-gives (declare_all text s.decls ports) (λ d. after (read_policy (env_of text d) s.policy d.arities) (limited d)) d given.gives
    ∙ after-gives (read_policy (env_of text d) s.policy given.behind) (limited d) (core_policy p.body, read.0) read.1
    ∙ limited-gives d (core_policy p.body, read.0) few few_arrays most h.few_nodes h.light
    ∙ ap (λ fs. Ok (record { fields = fs; arrays = f.arrays; body = core_policy p.body })) (sym h.fields)
    ∙ ap (λ vs. Ok (record { fields = p.fields; arrays = vs; body = core_policy p.body })) (sym h.arrays)
  where
    at_most : {n m : ℕ} → n ≡ m → m ≤ 8 → n ≤ 8
    at_most k l = omega (arith, k, l)
