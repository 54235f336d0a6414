-- What is read without a fault is read as `TreeReadings` says.
use Rattle.std.proofs.Common.{◌≡◌, ℕ, Bool, true, false, ◌==◌, List, [], ◌∷◌, ◌++◌, Option, None, Some, Ok, Err, IfOk, if◌then◌else◌, refl, sym, ap, ◌∙◌, subst, append_assoc, rules, bytes_eq}
use Rattle.std.proofs.lemmas.Bool.{eqb-true}
use Rattle.std.proofs.lemmas.Result.{IfOk-weaker}
use Rattle.std.specs.Map.{lookup}
use Rattle.snap_core.specs.Figures.{number_of, address_of}
use Rattle.snap_names.specs.Core.{Atom, Num, Comp, CoreTest, field_test, filter, set, seq, net, whole_test}
use Rattle.snap_parse.specs.Tree.{test_tree, set_tree}
use Rattle.snap_names.specs.Senses.{Span, Literal, Value, Sense, Plain, Split, Array, Constant, NameFault, Unknown, Wide, Kind, Prefix, Words, after, or_fault, word, sense_of, literal, address_at, constant, constant_of, field_atom, array_atom, atom_of, address_literal, address_of_sense, split_address, split_of_sense, split_atoms, split_net, net_if, split_test, test_of_sense, field_equals, set_of_sense, field_gets, value_atoms, atoms_of_sense, atoms_behind, array_of_sense}
use Rattle.snap_names.specs.Spells.{Scope}
use Rattle.snap_names.specs.Reading.{Env}
use Rattle.snap_names.proofs.BoundedSteps.{IfOk-after}
use Rattle.snap_names.proofs.TreeReadings.{Means, number, IsAddress, address, constant_address, HasAtoms, literal as a_literal, constant as a_constant, component, components, HaveAtoms, no_place, next_place, IsSingle, test, test_split, test_net, gets, gets_address, gets_split}

-- the names of a scope, and the bodies of its `let`s, as the reading with faults has them
abbrev pub words : Scope → Words
words e = record { text = e.text; names = e.names }

abbrev pub env : Scope → Env
env e = record { words = words e; lets = e.lets }

pub or_fault-is : {A : Type 0} (f : NameFault) (o : Option A) → IfOk (or_fault f o) (λ x. o ≡ Some x)
or_fault-is f None = tt
or_fault-is f (Some x) = refl

pub sense_of-means : (e : Scope) (t : Span) → IfOk (sense_of (words e) t) (Means e t)
sense_of-means e t = or_fault-is (Unknown t.from) (lookup (bytes_eq (word e.text t)) e.names)

pub literal-number : (text : List ℕ) (l : Literal) → IfOk (literal text l) (λ n. number text l ≡ Some n)
literal-number text (Literal.Number t) = or_fault-is (Wide t.from) (number_of (word text t))
literal-number text (Literal.Address t) = or_fault-is (Wide t.from) (address_of (word text t))
literal-number text _ = refl

constant_of-atoms : (e : Scope) (t : Span) (s : Sense) → Means e t s → IfOk (constant_of t.from s) (λ n. HasAtoms e (Value.Name t) (Num n ∷ []))
constant_of-atoms e t (Constant n b) h = a_constant h
constant_of-atoms e t _ h = tt

pub constant-atoms : (e : Scope) (v : Value) → IfOk (constant (words e) v) (λ n. HasAtoms e v (Num n ∷ []))
constant-atoms e (Value.Literal l) = IfOk-weaker (literal e.text l) (λ n. number e.text l ≡ Some n) (λ n. HasAtoms e (Value.Literal l) (Num n ∷ [])) (λ n h. a_literal h) (literal-number e.text l)
constant-atoms e (Value.Prefix a l) = tt
constant-atoms e (Value.Name t) = IfOk-after (Means e t) (λ n. HasAtoms e (Value.Name t) (Num n ∷ [])) (sense_of (words e) t) (constant_of t.from) (sense_of-means e t) (constant_of-atoms e t)

atom_of-atoms : (e : Scope) (t : Span) (s : Sense) → Means e t s → IfOk (atom_of t.from s) (λ a. HasAtoms e (Value.Name t) (a ∷ []))
atom_of-atoms e t (Plain c) h = component h
atom_of-atoms e t (Constant n b) h = a_constant h
atom_of-atoms e t _ h = tt

literal-atom : (e : Scope) (l : Literal) → IfOk (after (literal e.text l) (λ n. Ok (Num n))) (λ a. HasAtoms e (Value.Literal l) (a ∷ []))
literal-atom e l = IfOk-after (λ n. number e.text l ≡ Some n) (λ a. HasAtoms e (Value.Literal l) (a ∷ [])) (literal e.text l) (λ n. Ok (Num n)) (literal-number e.text l) (λ n h. a_literal h)

name-atom : (e : Scope) (t : Span) → IfOk (after (sense_of (words e) t) (atom_of t.from)) (λ a. HasAtoms e (Value.Name t) (a ∷ []))
name-atom e t = IfOk-after (Means e t) (λ a. HasAtoms e (Value.Name t) (a ∷ [])) (sense_of (words e) t) (atom_of t.from) (sense_of-means e t) (atom_of-atoms e t)

pub field_atom-atoms : (e : Scope) (v : Value) → IfOk (field_atom (words e) v) (λ a. HasAtoms e v (a ∷ []))
field_atom-atoms e (Value.Literal l) = literal-atom e l
field_atom-atoms e (Value.Prefix a l) = tt
field_atom-atoms e (Value.Name t) = name-atom e t

pub array_atom-atoms : (e : Scope) (v : Value) → IfOk (array_atom (words e) v) (λ a. HasAtoms e v (a ∷ []))
array_atom-atoms e (Value.Literal l) = literal-atom e l
array_atom-atoms e (Value.Prefix a l) = tt
array_atom-atoms e (Value.Name t) = name-atom e t

atoms_of_sense-atoms : (e : Scope) (t : Span) (s : Sense) → Means e t s → IfOk (atoms_of_sense t.from s) (HasAtoms e (Value.Name t))
atoms_of_sense-atoms e t (Plain c) h = component h
atoms_of_sense-atoms e t (Split a b n) h = components h
atoms_of_sense-atoms e t (Constant n b) h = a_constant h
atoms_of_sense-atoms e t _ h = tt

value_atoms-atoms : (e : Scope) (v : Value) → IfOk (value_atoms (words e) v) (HasAtoms e v)
value_atoms-atoms e (Value.Literal l) = IfOk-after (λ n. number e.text l ≡ Some n) (HasAtoms e (Value.Literal l)) (literal e.text l) (λ n. Ok (Num n ∷ [])) (literal-number e.text l) (λ n h. a_literal h)
value_atoms-atoms e (Value.Prefix a l) = tt
value_atoms-atoms e (Value.Name t) = IfOk-after (Means e t) (HasAtoms e (Value.Name t)) (sense_of (words e) t) (atoms_of_sense t.from) (sense_of-means e t) (atoms_of_sense-atoms e t)

-- the atoms of places behind those before
abbrev pub Behind : Scope → List Atom → List Value → List Atom → Type 0
Behind e before vs es = (index : List Atom) × HaveAtoms e vs index × (es ≡ before ++ index)

pub atoms_behind-atoms : (e : Scope) (before : List Atom) (vs : List Value) → IfOk (atoms_behind (words e) before vs) (Behind e before vs)
atoms_behind-atoms e before [] = ([], no_place, search rules)
atoms_behind-atoms e before (v ∷ vs) =
    IfOk-after (HasAtoms e v) (Behind e before (v ∷ vs)) (value_atoms (words e) v) (λ es. atoms_behind (words e) (before ++ es) vs) (value_atoms-atoms e v)
    (λ xs h. IfOk-weaker (atoms_behind (words e) (before ++ xs) vs) (Behind e (before ++ xs) vs) (Behind e before (v ∷ vs)) (λ es k. (xs ++ k.0, next_place h k.1, k.2 ∙ append_assoc before xs k.0)) (atoms_behind-atoms e (before ++ xs) vs))

-- ---- fields
address_at-is : (e : Scope) (t : Span) → IfOk (address_at e.text t) (λ x. address_of (word e.text t) ≡ Some x)
address_at-is e t = or_fault-is (Wide t.from) (address_of (word e.text t))

address_literal-is : (e : Scope) (l : Literal) → IfOk (address_literal (words e) l) (IsAddress e (Value.Literal l))
address_literal-is e (Literal.Address t) = IfOk-weaker (address_at e.text t) (λ x. address_of (word e.text t) ≡ Some x) (IsAddress e (Value.Literal (Literal.Address t))) (λ x h. address h) (address_at-is e t)
address_literal-is e _ = tt

address_of_sense-is : (e : Scope) (t : Span) (s : Sense) → Means e t s → IfOk (address_of_sense t.from s) (IsAddress e (Value.Name t))
address_of_sense-is e t (Constant n true) h = constant_address h
address_of_sense-is e t _ h = tt

split_address-is : (e : Scope) (v : Value) → IfOk (split_address (words e) v) (IsAddress e v)
split_address-is e (Value.Literal l) = address_literal-is e l
split_address-is e (Value.Prefix a l) = tt
split_address-is e (Value.Name t) = IfOk-after (Means e t) (IsAddress e (Value.Name t)) (sense_of (words e) t) (address_of_sense t.from) (sense_of-means e t) (address_of_sense-is e t)

-- the test of a split field, with a net of n bits
abbrev IsTestOf : Scope → Span → Value → CoreTest → Type 0
IsTestOf e t v x = IsSingle e (test_tree t v) (filter x)

whole_test-is : (e : Scope) (t : Span) (v : Value) (a b n : ℕ) → Means e t (Split a b n) → IfOk (after (split_address (words e) v) (λ x. Ok (whole_test a b n x))) (IsTestOf e t v)
whole_test-is e t v a b n h = IfOk-after (IsAddress e v) (IsTestOf e t v) (split_address (words e) v) (λ x. Ok (whole_test a b n x)) (split_address-is e v) (λ x k. test_split h k)

net_if-is : (e : Scope) (n : ℕ) (f : NameFault) (u : Span) (o : Option ℕ) → IfOk (net_if n f (address_at e.text u) o) (λ y. (x : ℕ) × (address_of (word e.text u) ≡ Some x) × (o ≡ Some n) × (y ≡ net n x))
net_if-is e n f u None = tt
net_if-is e n f u (Some m) = by_test (m == n) refl
  where
    by_test : (b : Bool) → (m == n) ≡ b → IfOk (if b then after (address_at e.text u) (λ a. Ok (net n a)) else Err f) (λ y. (x : ℕ) × (address_of (word e.text u) ≡ Some x) × (Some m ≡ Some n) × (y ≡ net n x))
    by_test true same = IfOk-after (λ x. address_of (word e.text u) ≡ Some x) _ (address_at e.text u) (λ a. Ok (net n a)) (address_at-is e u) (λ x h. (x, h, ap Some (eqb-true m n same), refl))
    by_test false other = tt

split_test-is : (e : Scope) (t : Span) (v : Value) (a b n : ℕ) → Means e t (Split a b n) → IfOk (split_test (words e) a b n v) (IsTestOf e t v)
split_test-is e t (Value.Literal l) a b n h = whole_test-is e t (Value.Literal l) a b n h
split_test-is e t (Value.Prefix u l) a b n h =
    IfOk-after _ (IsTestOf e t (Value.Prefix u l)) (split_net (words e) n u l) (λ y. Ok (field_test a y)) (net_if-is e n (Prefix u.from) u (number_of (word e.text l)))
    (λ y k. subst (λ z. IsTestOf e t (Value.Prefix u l) (field_test a z)) (sym k.3) (test_net h k.1 k.2))
split_test-is e t (Value.Name u) a b n h = whole_test-is e t (Value.Name u) a b n h

test_of_sense-is : (e : Scope) (t : Span) (v : Value) (s : Sense) → Means e t s → IfOk (test_of_sense (words e) t.from v s) (IsTestOf e t v)
test_of_sense-is e t v (Plain c) h = IfOk-after (λ n. HasAtoms e v (Num n ∷ [])) (IsTestOf e t v) (constant (words e) v) (λ n. Ok (field_test c n)) (constant-atoms e v) (λ n k. test h k)
test_of_sense-is e t v (Split a b n) h = split_test-is e t v a b n h
test_of_sense-is e t v _ h = tt

pub field_equals-is : (e : Scope) (t : Span) (v : Value) → IfOk (field_equals (words e) t v) (IsTestOf e t v)
field_equals-is e t v = IfOk-after (Means e t) (IsTestOf e t v) (sense_of (words e) t) (test_of_sense (words e) t.from v) (sense_of-means e t) (test_of_sense-is e t v)

-- the atoms that a split field gets
abbrev SplitGets : Scope → Span → Value → ℕ → ℕ → Atom × Atom → Type 0
SplitGets e t v a b x = IsSingle e (set_tree t v) (seq (set a x.0) (set b x.1))

split_of_sense-is : (e : Scope) (t u : Span) (a b n : ℕ) → Means e t (Split a b n) → (s : Sense) → Means e u s → IfOk (split_of_sense n u.from s) (SplitGets e t (Value.Name u) a b)
split_of_sense-is e t u a b n h (Plain c) k = tt
split_of_sense-is e t u a b n h (Split c d m) k = by_test (m == n) refl
  where
    by_test : (z : Bool) → (m == n) ≡ z → IfOk (if z then Ok (Comp c, Comp d) else Err (Kind u.from)) (SplitGets e t (Value.Name u) a b)
    by_test true same = gets_split h (subst (λ i. Means e u (Split c d i)) (eqb-true m n same) k)
    by_test false other = tt
split_of_sense-is e t u a b n h (Constant x true) k = gets_address h (constant_address k)
split_of_sense-is e t u a b n h _ k = tt

split_atoms-is : (e : Scope) (t : Span) (v : Value) (a b n : ℕ) → Means e t (Split a b n) → IfOk (split_atoms (words e) n v) (SplitGets e t v a b)
split_atoms-is e t (Value.Literal l) a b n h = IfOk-after (IsAddress e (Value.Literal l)) (SplitGets e t (Value.Literal l) a b) (address_literal (words e) l) _ (address_literal-is e l) (λ x k. gets_address h k)
split_atoms-is e t (Value.Prefix u l) a b n h = tt
split_atoms-is e t (Value.Name u) a b n h = IfOk-after (Means e u) (SplitGets e t (Value.Name u) a b) (sense_of (words e) u) (split_of_sense n u.from) (sense_of-means e u) (split_of_sense-is e t u a b n h)

set_of_sense-is : (e : Scope) (t : Span) (v : Value) (s : Sense) → Means e t s → IfOk (set_of_sense (words e) t.from v s) (IsSingle e (set_tree t v))
set_of_sense-is e t v (Plain c) h = IfOk-after (λ a. HasAtoms e v (a ∷ [])) (IsSingle e (set_tree t v)) (field_atom (words e) v) (λ x. Ok (set c x)) (field_atom-atoms e v) (λ a k. gets h k)
set_of_sense-is e t v (Split a b n) h = IfOk-after (SplitGets e t v a b) (IsSingle e (set_tree t v)) (split_atoms (words e) n v) _ (split_atoms-is e t v a b n h) (λ x k. k)
set_of_sense-is e t v _ h = tt

pub field_gets-is : (e : Scope) (t : Span) (v : Value) → IfOk (field_gets (words e) t v) (IsSingle e (set_tree t v))
field_gets-is e t v = IfOk-after (Means e t) (IsSingle e (set_tree t v)) (sense_of (words e) t) (set_of_sense (words e) t.from v) (sense_of-means e t) (set_of_sense-is e t v)

pub array_of_sense-is : (e : Scope) (t : Span) → IfOk (after (sense_of (words e) t) (array_of_sense t.from)) (λ i. Means e t (Array i))
array_of_sense-is e t = IfOk-after (Means e t) (λ i. Means e t (Array i)) (sense_of (words e) t) (array_of_sense t.from) (sense_of-means e t) by_sense
  where
    by_sense : (s : Sense) → Means e t s → IfOk (array_of_sense t.from s) (λ i. Means e t (Array i))
    by_sense (Array s) h = h
    by_sense _ h = tt
