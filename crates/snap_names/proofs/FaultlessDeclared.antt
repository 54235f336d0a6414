-- A tree that is read without a fault is of a program as `TreeReadings` says.
use Rattle.std.proofs.Common.{◌≡◌, ℕ, ◌+◌, ◌≤◌, min, Bool, true, false, List, [], ◌∷◌, ◌++◌, length, slice_get, Option, None, Some, is_some, Result, Ok, Err, IfOk, if◌then◌else◌, ◌&&◌, nat_le, refl, sym, ap, ◌∙◌, subst, arith, le_refl, le_trans, length-append}
use Rattle.std.proofs.lemmas.Bool.{leb-true}
use Rattle.std.proofs.lemmas.Result.{IfOk-weaker}
use Rattle.std.specs.List.{AllByRecursion, list_any}
use Rattle.snap_names.specs.Declarations.{Field, Program, Components, Arrays, Atoms, Nodes, Weight, Declared, ports, env_of, short, field_senses, prefix_length, with_field, with_array, with_constant, with_let, declare, declare_all, CoreProgram, core_program, greatest, limited, resolved, is_field_known}
use Rattle.snap_core.specs.Fields.{count, width}
use Rattle.snap_core.specs.Figures.{number_of}
use Rattle.snap_parse.specs.Tree.{DeclTree, field_tree, array_tree, const_tree, let_tree, PolicyTree, SourceTree}
use Rattle.snap_names.specs.Senses.{Span, Literal, Sense, Array, Constant, Policy, NameFault, Twice, Prefix, Wide, Arities, after, word, number_at, literal, is_address}
use Rattle.snap_names.specs.Core.{CorePolicy, nodes, weight}
use Rattle.snap_names.specs.Reading.{read_policy}
use Rattle.snap_names.specs.Spells.{Scope, senses, is_known}
use Rattle.snap_names.proofs.BoundedCore.{Grows, Grows-same, Grows-then}
use Rattle.snap_core.proofs.FieldLemmas.{count-append}
use Rattle.snap_names.proofs.BoundedDeclared.{DeclaredFits, scope_of, PolicyRead, policy-read, declare-fits, ports-fit, Grows-append}
use Rattle.snap_names.proofs.BoundedSteps.{IfOk-after, IfOk-both, IfOk-unless_is, IfOk-within}
use Rattle.snap_names.proofs.Faultless.{literal-number, or_fault-is}
use Rattle.snap_names.proofs.ReadTrees.{Agrees, Agrees-before}
use Rattle.snap_names.proofs.Placed.{DeclWritten, SourceWritten}
use Rattle.snap_names.proofs.WellFormed.{seen_or, greatest-bounds}
use Rattle.snap_names.proofs.TreeReadings.{number, IsPolicy, IsLength, plain, split, Declares, field, array, const, body_of_let, DeclaresAll, no_more, one_more, IsProgramOf}

-- more is declared
record Later (d f : Declared) : Type 0 where
  grows : Grows d.arities f.arities
  fields : count d.fields ≤ count f.fields
  arrays : length d.arrays ≤ length f.arrays

Later-same : (d : Declared) → Later d d
Later-same d = record { grows = Grows-same d.arities; fields = le_refl (count d.fields); arrays = le_refl (length d.arrays) }

Later-then : (d e f : Declared) → Later d e → Later e f → Later d f
Later-then d e f h k = record { grows = Grows-then d.arities e.arities f.arities h.grows k.grows; fields = le_trans h.fields k.fields; arrays = le_trans h.arrays k.arrays }

-- within the limits, and each array that was indexed has as many atoms
record IsFew (atoms : ℕ → ℕ) (f : Declared) : Type 0 where
  agrees : Agrees atoms f.arities
  fields : count f.fields ≤ 64
  arrays : length f.arrays ≤ 64

IsFew-before : (atoms : ℕ → ℕ) (d f : Declared) → Later d f → IsFew atoms f → IsFew atoms d
IsFew-before atoms d f h k = record { agrees = Agrees-before atoms d.arities f.arities h.grows k.agrees; fields = le_trans h.fields k.fields; arrays = le_trans h.arrays k.arrays }

-- what one declaration declares
record Step (text : List ℕ) (atoms : ℕ → ℕ) (d : Declared) (t : DeclTree) (f : Declared) : Type 0 where
  more : Scope
  names : List (List ℕ × Sense)
  declares : Declares (scope_of text atoms d) t more names
  new : list_any (λ x. is_known d.names x.0) names ≡ false
  same : scope_of text atoms f ≡ record more { names = d.names ++ names }

abbrev Steps : List ℕ → (ℕ → ℕ) → Declared → DeclTree → Declared → Type 0
Steps text atoms d t f = Later d f × (IsFew atoms f → Step text atoms d t f)

one-known : (names : List (List ℕ × Sense)) (name : List ℕ) (s : Sense) → is_known names name ≡ false → list_any {X = List ℕ × Sense} (λ x. is_known names x.0) ((name, s) ∷ []) ≡ false
one-known names name s h = rw h refl

pub fields-known : (names : List (List ℕ × Sense)) (c : ℕ) (name : List ℕ) (n : Option ℕ) → is_field_known names name (is_some n) ≡ list_any {X = List ℕ × Sense} (λ x. is_known names x.0) (senses c name n)
fields-known names c name None = refl
fields-known names c name (Some n) = refl

pub senses-short : (c : ℕ) (name : List ℕ) (n : Option ℕ) → c + width n ≤ 64 → field_senses c name n ≡ senses c name n
senses-short c name None h = let here : short c ≡ c = omega (arith, h) in rw here refl
senses-short c name (Some n) h =
    let here : short c ≡ c = omega (arith, h) in
    let next : short (c + 1) ≡ c + 1 = omega (arith, h) in
    rw (here, next) refl

abbrev LengthIs : List ℕ → Option Span → Option ℕ → Type 0
LengthIs text l n = IsLength text l n × (is_some l ≡ is_some n)

prefix_length-is : (text : List ℕ) (l : Option Span) → IfOk (prefix_length text l) (LengthIs text l)
prefix_length-is text None = (plain, refl)
prefix_length-is text (Some t) =
    IfOk-after (λ n. number_of (word text t) ≡ Some n) (LengthIs text (Some t)) (number_at text t) _ (or_fault-is (Wide t.from) (number_of (word text t))) (λ n h. by_test n h (nat_le 1 n) refl (nat_le n 31) refl)
  where
    by_test : (n : ℕ) → number_of (word text t) ≡ Some n → (a : Bool) → nat_le 1 n ≡ a → (b : Bool) → nat_le n 31 ≡ b → IfOk (if a && b then Ok (Some n) else Err (Prefix t.from)) (LengthIs text (Some t))
    by_test n h true k true l = (split h (leb-true 1 n k) (leb-true n 31 l), refl)
    by_test n h true k false l = tt
    by_test n h false k b l = tt

with_field-steps : (text : List ℕ) (atoms : ℕ → ℕ) (d : Declared) (at : ℕ) (t : Span) (l : Option Span) (n : Option ℕ) → is_field_known d.names (word text t) (is_some l) ≡ false → LengthIs text l n
    → Steps text atoms d (field_tree at t l) (with_field d (word text t) n)
with_field-steps text atoms d at t l n new is =
    let f : Field = record { name = word text t; prefix = n } in
    let counted : count (d.fields ++ f ∷ []) ≡ count d.fields + (width n + 0) = count-append d.fields (f ∷ []) in
    let added : List (List ℕ × Sense) = senses (count d.fields) (word text t) n in (
      record { grows = Grows-same d.arities; fields = omega (arith, counted); arrays = le_refl (length d.arrays) },
      λ few. record {
        more = record (scope_of text atoms d) { fields = d.fields ++ f ∷ [] };
        names = added;
        declares = field is.0;
        new = sym (fields-known d.names (count d.fields) (word text t) n) ∙ ap (λ b. is_field_known d.names (word text t) b) (sym is.1) ∙ new;
        same = ap (λ more. scope_of text atoms (record d { fields = d.fields ++ f ∷ []; names = d.names ++ more })) (senses-short (count d.fields) (word text t) n (omega (arith, counted, few.fields)));
      },
    )

with_array-steps : (text : List ℕ) (atoms : ℕ → ℕ) (d : Declared) (at : ℕ) (t : Span) → is_known d.names (word text t) ≡ false → Steps text atoms d (array_tree at t) (with_array d (word text t))
with_array-steps text atoms d at t new = (
  record { grows = Grows-append d.arities (None ∷ []); fields = le_refl (count d.fields); arrays = omega (arith, length-append d.arrays (word text t ∷ [])) },
  λ few. record {
    more = record (scope_of text atoms d) { arrays = d.arrays ++ word text t ∷ [] };
    names = (word text t, Array (length d.arrays)) ∷ [];
    declares = array;
    new = one-known d.names (word text t) (Array (length d.arrays)) new;
    same = refl;
  },
)

with_constant-steps : (text : List ℕ) (atoms : ℕ → ℕ) (d : Declared) (at : ℕ) (t : Span) (l : Literal) (n : ℕ) → is_known d.names (word text t) ≡ false → number text l ≡ Some n → Steps text atoms d (const_tree at t l) (with_constant d (word text t) n (is_address l))
with_constant-steps text atoms d at t l n new is = (
  record { grows = Grows-same d.arities; fields = le_refl (count d.fields); arrays = le_refl (length d.arrays) },
  λ few. record {
    more = scope_of text atoms d;
    names = (word text t, Constant n (is_address l)) ∷ [];
    declares = const is;
    new = one-known d.names (word text t) (Constant n (is_address l)) new;
    same = refl;
  },
)

with_let-steps : (text : List ℕ) (atoms : ℕ → ℕ) (d : Declared) (at : ℕ) (t : Span) (b : PolicyTree) (x : CorePolicy × Arities) → is_known d.names (word text t) ≡ false → PolicyRead (Unit {0}) text atoms d b x → Steps text atoms d (let_tree at t b) (with_let d (word text t) x)
with_let-steps text atoms d at t b x new read = (
  record { grows = read.0; fields = le_refl (count d.fields); arrays = le_refl (length d.arrays) },
  λ few. record {
    more = record (scope_of text atoms d) { lets = d.lets ++ x.0 ∷ [] };
    names = (word text t, Policy (length d.lets)) ∷ [];
    declares = body_of_let (read.1.1 tt (omega (arith, few.arrays)) few.agrees);
    new = one-known d.names (word text t) (Policy (length d.lets)) new;
    same = refl;
  },
)

declare-steps : (text : List ℕ) (atoms : ℕ → ℕ) (d : Declared) → DeclaredFits (Unit {0}) d → (t : DeclTree) → DeclWritten text t → IfOk (declare text d t) (Steps text atoms d t)
declare-steps text atoms d h (field_tree at t l) w =
    IfOk-unless_is (Steps text atoms d (field_tree at t l)) (is_field_known d.names (word text t) (is_some l)) (Twice t.from) _ (λ new.
    IfOk-after (LengthIs text l) (Steps text atoms d (field_tree at t l)) (prefix_length text l) _ (prefix_length-is text l) (λ n is. with_field-steps text atoms d at t l n new is))
declare-steps text atoms d h (array_tree at t) w =
    IfOk-unless_is (Steps text atoms d (array_tree at t)) (is_known d.names (word text t)) (Twice t.from) (Ok (with_array d (word text t))) (with_array-steps text atoms d at t)
declare-steps text atoms d h (const_tree at t l) w =
    IfOk-unless_is (Steps text atoms d (const_tree at t l)) (is_known d.names (word text t)) (Twice t.from) _ (λ new.
    IfOk-after (λ n. number text l ≡ Some n) (Steps text atoms d (const_tree at t l)) (literal text l) _ (literal-number text l) (λ n is. with_constant-steps text atoms d at t l n new is))
declare-steps text atoms d h (let_tree at t b) w =
    IfOk-unless_is (Steps text atoms d (let_tree at t b)) (is_known d.names (word text t)) (Twice t.from) _ (λ new.
    IfOk-after (PolicyRead (Unit {0}) text atoms d b) (Steps text atoms d (let_tree at t b)) (read_policy (env_of text d) b d.arities) _ (policy-read (Unit {0}) text atoms d h b (λ q. w)) (λ x read. with_let-steps text atoms d at t b x new read))

abbrev AllSteps : List ℕ → (ℕ → ℕ) → Declared → List DeclTree → Declared → Type 0
AllSteps text atoms d ts f = DeclaredFits (Unit {0}) f × Later d f × (IsFew atoms f → DeclaresAll (scope_of text atoms d) ts (scope_of text atoms f))

step-more : (text : List ℕ) (atoms : ℕ → ℕ) (d : Declared) (t : DeclTree) (ts : List DeclTree) (e f : Declared) → Step text atoms d t e → DeclaresAll (scope_of text atoms e) ts (scope_of text atoms f) → DeclaresAll (scope_of text atoms d) (t ∷ ts) (scope_of text atoms f)
step-more text atoms d t ts e f h k = one_more h.declares h.new (subst (λ s. DeclaresAll s ts (scope_of text atoms f)) h.same k)

declare_all-steps : (text : List ℕ) (atoms : ℕ → ℕ) (ts : List DeclTree) (d : Declared) → DeclaredFits (Unit {0}) d → AllByRecursion (DeclWritten text) ts → IfOk (declare_all text ts d) (AllSteps text atoms d ts)
declare_all-steps text atoms [] d h w = (h, Later-same d, λ few. no_more)
declare_all-steps text atoms (t ∷ ts) d h w =
    IfOk-after (λ e. DeclaredFits (Unit {0}) e × Steps text atoms d t e) (AllSteps text atoms d (t ∷ ts)) (declare text d t) (declare_all text ts)
    (IfOk-both (DeclaredFits (Unit {0})) (Steps text atoms d t) (declare text d t) (declare-fits (Unit {0}) text d h t (λ q. w.0)) (declare-steps text atoms d h t w.0))
    (λ e k. IfOk-weaker (declare_all text ts e) (AllSteps text atoms e ts) (AllSteps text atoms d (t ∷ ts))
    (λ f l. (l.0, Later-then d e f k.1.0 l.1, λ few. step-more text atoms d t ts e f (k.1.1 (IsFew-before atoms e f l.1 few)) (l.2 few)))
    (declare_all-steps text atoms ts e k.0 w.1))

-- ---- limits
record IsLimited (d : Declared) (x : CorePolicy × Arities) (p : CoreProgram) : Type 0 where
  components : count d.fields ≤ 64
  arrays : length d.arrays ≤ 64
  most : greatest x.1 ≤ 8
  few_nodes : nodes x.0 ≤ 2000
  light : weight x.0 ≤ 16777216
  fields_are : p.fields ≡ d.fields
  arrays_are : p.arrays ≡ d.arrays
  body_is : p.body ≡ x.0

limited-is : (d : Declared) (x : CorePolicy × Arities) → IfOk (limited d x) (IsLimited d x)
limited-is d x =
    IfOk-within (IsLimited d x) Components (count d.fields) 64 _ (λ components.
    IfOk-within (IsLimited d x) Arrays (length d.arrays) 64 _ (λ arrays.
    IfOk-within (IsLimited d x) Atoms (greatest x.1) 8 _ (λ most.
    IfOk-within (IsLimited d x) Nodes (nodes x.0) 2000 _ (λ few_nodes.
    IfOk-within (IsLimited d x) Weight (weight x.0) 16777216 _ (λ light.
    record { components = components; arrays = arrays; most = most; few_nodes = few_nodes; light = light; fields_are = refl; arrays_are = refl; body_is = refl })))))

-- the atoms of each array, by those that were seen
abbrev atoms_in : Arities → ℕ → ℕ
atoms_in seen i = min 8 (seen_or (slice_get seen i))

atoms_in-agree : (seen : Arities) → greatest seen ≤ 8 → Agrees (atoms_in seen) seen
atoms_in-agree seen most i n h =
    let at_most : n ≤ greatest seen = greatest-bounds seen i n h in
    let kept : n ≡ min 8 n = omega (arith, at_most, most) in
    kept ∙ ap (λ o. min 8 (seen_or o)) (sym h)

after-ok : {A B : Type 0} (r : Result A NameFault) (f : A → Result B NameFault) (y : B) → after r f ≡ Ok y → (x : A) × (r ≡ Ok x) × (f x ≡ Ok y)
after-ok (Ok x) f y h = (x, refl, h)
after-ok (Err e) f y h = absurd (let no' : Err e ≡ Ok y = h in cc)

-- **A tree of a text that is read without a fault is of that program.**
pub IsProgramOf-resolved : (text : List ℕ) (s : SourceTree) → SourceWritten text s → (p : Program) → resolved text s ≡ Ok (core_program p) → IsProgramOf text s p
IsProgramOf-resolved text s w p h = found (after-ok (declare_all text s.decls ports) _ (core_program p) h)
  where
    found : (d : Declared) × (declare_all text s.decls ports ≡ Ok d) × (after (read_policy (env_of text d) s.policy d.arities) (limited d) ≡ Ok (core_program p)) → IsProgramOf text s p
    found (d, declared, rest) = read (after-ok (read_policy (env_of text d) s.policy d.arities) (limited d) (core_program p) rest)
      where
        read : (x : CorePolicy × Arities) × (read_policy (env_of text d) s.policy d.arities ≡ Ok x) × (limited d x ≡ Ok (core_program p)) → IsProgramOf text s p
        read (x, is, limit) =
            let atoms : ℕ → ℕ = atoms_in x.1 in
            let limits : IsLimited d x (core_program p) = subst (λ r. IfOk r (IsLimited d x)) limit (limited-is d x) in
            let steps : AllSteps text atoms ports s.decls d = subst (λ r. IfOk r (AllSteps text atoms ports s.decls)) declared (declare_all-steps text atoms s.decls ports (ports-fit (Unit {0})) w.0) in
            let reads : PolicyRead (Unit {0}) text atoms d s.policy x = subst (λ r. IfOk r (PolicyRead (Unit {0}) text atoms d s.policy)) is (policy-read (Unit {0}) text atoms d steps.0 s.policy (λ q. w.1)) in
            let agrees : Agrees atoms x.1 = atoms_in-agree x.1 limits.most in
            let few : IsFew atoms d = record { agrees = Agrees-before atoms d.arities x.1 reads.0 agrees; fields = limits.components; arrays = limits.arrays } in
            record {
              atoms = atoms;
              few_atoms = λ i. omega arith;
              scope = scope_of text atoms d;
              declared = steps.2 few;
              fields = limits.fields_are;
              arrays = limits.arrays_are;
              body = subst (IsPolicy (scope_of text atoms d) s.policy) (sym limits.body_is) (reads.1.1 tt (omega (arith, limits.arrays)) agrees);
              few_components = subst (λ fs. count fs ≤ 64) (sym limits.fields_are) limits.components;
              few_arrays = subst (λ vs. length vs ≤ 64) (sym limits.arrays_are) limits.arrays;
              few_nodes = subst (λ q. nodes q ≤ 2000) (sym limits.body_is) limits.few_nodes;
              light = subst (λ q. weight q ≤ 16777216) (sym limits.body_is) limits.light;
            }
