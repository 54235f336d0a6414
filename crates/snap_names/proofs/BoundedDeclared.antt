-- What is declared fits.
use Rattle.std.proofs.Common.{◌≡◌, ℕ, zero, suc, ◌+◌, ◌<◌, ◌≤◌, List, [], ◌∷◌, ◌++◌, length, slice_get, Option, None, Some, is_some, Ok, IfOk, arith, le_refl, le_trans, lt_of_le_of_lt, lt_of_lt_of_le, length-append}
use Rattle.std.proofs.Math.Nat.{min-le_left}
use Rattle.std.specs.List.{All}
use Rattle.std.proofs.lemmas.List.Elements.{All-append, All-from_recursion, All-nil, All-push, All-weaker}
use Rattle.snap_names.specs.Declarations.{Field, Declared, ports, env_of, short, field_senses, prefix_length, with_field, with_array, with_constant, with_let, declare, is_field_known}
use Rattle.snap_core.specs.Fields.{count, width}
use Rattle.snap_parse.specs.Tree.{PolicyTree, DeclTree, field_tree, array_tree, const_tree, let_tree}
use Rattle.snap_names.specs.Senses.{Sense, Plain, Split, Array, Constant, Policy, Twice, Arities, word, literal, is_address}
use Rattle.snap_names.specs.Core.{CorePolicy}
use Rattle.snap_names.specs.Reading.{read_policy}
use Rattle.snap_names.specs.Spells.{Scope, is_known}
use Rattle.snap_names.proofs.BoundedCore.{PolicyFits, PolicyFits-more, Grows, Grows-same}
use Rattle.snap_names.proofs.ReadTrees.{EnvFits, Is, policy-reads}
use Rattle.snap_names.proofs.TreeReadings.{IsPolicy}
use Rattle.snap_names.proofs.BoundedSenses.{SenseFits, NamesFit}
use Rattle.snap_names.proofs.BoundedSteps.{IfOk-after, IfOk-after_any, IfOk-unless}
use Rattle.snap_names.proofs.Placed.{DeclWritten, PolicyPlaced, HasSequence}
use Rattle.snap_core.proofs.FieldLemmas.{count-append}

-- what the names stand for, and the bodies of `let`, have no component and no array beyond those that are declared
pub record DeclaredFits (W : Type 0) (d : Declared) : Type 0 where
  pub names : NamesFit (count d.fields) (length d.arrays) d.names
  pub lets : All (PolicyFits W (count d.fields) (length d.arrays) d.arities) d.lets
  pub room : length d.arrays ≤ length d.arities

SenseFits-more : (c d v w : ℕ) → c ≤ d → v ≤ w → (s : Sense) → SenseFits c v s → SenseFits d w s
SenseFits-more c d v w k l (Plain i) h = lt_of_lt_of_le h k
SenseFits-more c d v w k l (Split a b n) h = (lt_of_lt_of_le h.0 k, lt_of_lt_of_le h.1 k)
SenseFits-more c d v w k l (Array s) h = lt_of_lt_of_le h l
SenseFits-more c d v w k l _ h = tt

NamesFit-more : (c d v w : ℕ) → c ≤ d → v ≤ w → (names : List (List ℕ × Sense)) → NamesFit c v names → NamesFit d w names
NamesFit-more c d v w k l names h = All-weaker (λ x. SenseFits c v x.1) (λ x. SenseFits d w x.1) (λ x. SenseFits-more c d v w k l x.1) names h

LetsFit-more : (W : Type 0) (c d v w : ℕ) (seen now : Arities) → c ≤ d → v ≤ w → Grows seen now → (lets : List CorePolicy) → All (PolicyFits W c v seen) lets → All (PolicyFits W d w now) lets
LetsFit-more W c d v w seen now k l g lets h = All-weaker (PolicyFits W c v seen) (PolicyFits W d w now) (PolicyFits-more W c d v w seen now k l g) lets h

NamesFit-append : (c v : ℕ) (names more : List (List ℕ × Sense)) → NamesFit c v names → NamesFit c v more → NamesFit c v (names ++ more)
NamesFit-append c v names more h k = All-append (λ x. SenseFits c v x.1) names more h k

short-below : (i c : ℕ) → i < c → short i < c
short-below i c h = lt_of_le_of_lt (min-le_left i 65535) h

field_senses-fit : (c d v : ℕ) (name : List ℕ) (prefix : Option ℕ) → c + width prefix ≤ d → NamesFit d v (field_senses c name prefix)
field_senses-fit c d v name None h = All-from_recursion (λ x. SenseFits d v x.1) (field_senses c name None) (short-below c d (omega (arith, h)), tt)
field_senses-fit c d v name (Some n) h =
    let net : short c < d = short-below c d (omega (arith, h)) in
    let host : short (c + 1) < d = short-below (c + 1) d (omega (arith, h)) in
    All-from_recursion (λ x. SenseFits d v x.1) (field_senses c name (Some n)) ((net, host), (net, (host, tt)))

pub Grows-append : (seen more : Arities) → Grows seen (seen ++ more)
Grows-append seen more = record { size = omega (arith, length-append seen more); kept = kept seen }
  where
    kept : (xs : Arities) (i n : ℕ) → slice_get xs i ≡ Some (Some n) → slice_get (xs ++ more) i ≡ Some (Some n)
    kept [] i n h = cc
    kept (x ∷ xs) zero n h = h
    kept (x ∷ xs) (suc i) n h = kept xs i n h

with_field-fits : (W : Type 0) (d : Declared) (name : List ℕ) (prefix : Option ℕ) → DeclaredFits W d → DeclaredFits W (with_field d name prefix)
with_field-fits W d name prefix h =
    let f : Field = record { name = name; prefix = prefix } in
    let counted : count (d.fields ++ f ∷ []) ≡ count d.fields + (width prefix + 0) = count-append d.fields (f ∷ []) in
    let wider : count d.fields + width prefix ≤ count (d.fields ++ f ∷ []) = omega (arith, counted) in
    let more : count d.fields ≤ count (d.fields ++ f ∷ []) = omega (arith, counted) in
    record {
      names = NamesFit-append _ _ d.names (field_senses (count d.fields) name prefix) (NamesFit-more _ _ _ _ more (le_refl _) d.names h.names) (field_senses-fit _ _ _ name prefix wider);
      lets = LetsFit-more W _ _ _ _ _ _ more (le_refl _) (Grows-same _) d.lets h.lets;
      room = h.room;
    }

with_array-fits : (W : Type 0) (d : Declared) (name : List ℕ) → DeclaredFits W d → DeclaredFits W (with_array d name)
with_array-fits W d name h =
    let counted : length (d.arrays ++ name ∷ []) ≡ length d.arrays + 1 = length-append d.arrays (name ∷ []) in
    let seen : length (d.arities ++ None ∷ []) ≡ length d.arities + 1 = length-append d.arities (None ∷ []) in
    let below : length d.arrays < length (d.arrays ++ name ∷ []) = omega (arith, counted) in
    let more : length d.arrays ≤ length (d.arrays ++ name ∷ []) = omega (arith, counted) in
    record {
      names = NamesFit-append _ _ d.names ((name, Array (length d.arrays)) ∷ []) (NamesFit-more _ _ _ _ (le_refl _) more d.names h.names) (All-from_recursion (λ x. SenseFits (count d.fields) (length (d.arrays ++ name ∷ [])) x.1) ((name, Array (length d.arrays)) ∷ []) (below, tt));
      lets = LetsFit-more W _ _ _ _ _ _ (le_refl _) more (Grows-append d.arities (None ∷ [])) d.lets h.lets;
      room = omega (arith, counted, seen, h.room);
    }

with_constant-fits : (W : Type 0) (d : Declared) (name : List ℕ) (n : ℕ) (b : _) → DeclaredFits W d → DeclaredFits W (with_constant d name n b)
with_constant-fits W d name n b h = record { names = All-push (λ x. SenseFits (count d.fields) (length d.arrays) x.1) d.names (name, Constant n b) h.names tt; lets = h.lets; room = h.room }

with_let-fits : (W : Type 0) (d : Declared) (name : List ℕ) (x : CorePolicy × Arities) → DeclaredFits W d → Grows d.arities x.1 × PolicyFits W (count d.fields) (length d.arrays) x.1 x.0 → DeclaredFits W (with_let d name x)
with_let-fits W d name x h k = record {
  names = All-push (λ x. SenseFits (count d.fields) (length d.arrays) x.1) d.names (name, Policy (length d.lets)) h.names tt;
  lets = All-push (PolicyFits W (count d.fields) (length d.arrays) x.1) d.lets x.0 (LetsFit-more W _ _ _ _ _ _ (le_refl _) (le_refl _) k.0 d.lets h.lets) k.1;
  room = le_trans h.room k.0.size;
}

env-fits : (W : Type 0) (text : List ℕ) (d : Declared) → DeclaredFits W d → EnvFits W (count d.fields) (length d.arrays) (env_of text d) d.arities
env-fits W text d h = record { names = h.names; lets = h.lets; room = h.room }

-- what is declared, as a scope
abbrev pub scope_of : List ℕ → (ℕ → ℕ) → Declared → Scope
scope_of text atoms d = record { text = text; atoms = atoms; fields = d.fields; arrays = d.arrays; lets = d.lets; names = d.names }

-- what a policy behind declarations reads as
abbrev pub PolicyRead : Type 0 → List ℕ → (ℕ → ℕ) → Declared → PolicyTree → CorePolicy × Arities → Type 0
PolicyRead W text atoms d t x = Grows d.arities x.1 × Is W (count d.fields) (length d.arrays) (scope_of text atoms d) (IsPolicy (scope_of text atoms d) t) x.1 x.0

pub policy-read : (W : Type 0) (text : List ℕ) (atoms : ℕ → ℕ) (d : Declared) → DeclaredFits W d → (t : PolicyTree) → (W → PolicyPlaced t × HasSequence t) → IfOk (read_policy (env_of text d) t d.arities) (PolicyRead W text atoms d t)
policy-read W text atoms d h t w = policy-reads W (count d.fields) (length d.arrays) (scope_of text atoms d) t w d.arities (env-fits W text d h)

pub declare-fits : (W : Type 0) (text : List ℕ) (d : Declared) → DeclaredFits W d → (t : DeclTree) → (W → DeclWritten text t) → IfOk (declare text d t) (DeclaredFits W)
declare-fits W text d h (field_tree at t p) w =
    IfOk-unless (DeclaredFits W) (is_field_known d.names (word text t) (is_some p)) (Twice t.from) _
    (IfOk-after_any (DeclaredFits W) (prefix_length text p) _ (λ n. with_field-fits W d (word text t) n h))
declare-fits W text d h (array_tree at t) w = IfOk-unless (DeclaredFits W) (is_known d.names (word text t)) (Twice t.from) (Ok (with_array d (word text t))) (with_array-fits W d (word text t) h)
declare-fits W text d h (const_tree at t l) w =
    IfOk-unless (DeclaredFits W) (is_known d.names (word text t)) (Twice t.from) _
    (IfOk-after_any (DeclaredFits W) (literal text l) _ (λ n. with_constant-fits W d (word text t) n (is_address l) h))
declare-fits W text d h (let_tree at t p) w =
    IfOk-unless (DeclaredFits W) (is_known d.names (word text t)) (Twice t.from) _
    (IfOk-after (PolicyRead W text (λ i. i) d p) (DeclaredFits W) (read_policy (env_of text d) p d.arities) _ (policy-read W text (λ i. i) d h p w) (λ x k. with_let-fits W d (word text t) x h (k.0, k.1.0)))

pub ports-fit : (W : Type 0) → DeclaredFits W ports
ports-fit W = record { names = All-from_recursion (λ x. SenseFits 2 0 x.1) ports.names (omega arith, (omega arith, tt)); lets = All-nil (PolicyFits W 2 0 []); room = omega arith }
