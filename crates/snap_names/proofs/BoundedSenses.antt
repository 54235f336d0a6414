-- What a name or a value stands for fits, where each name does.
use Rattle.std.proofs.Common.{◌≡◌, ℕ, zero, suc, ◌+◌, ◌<◌, ◌≤◌, Bool, true, false, List, [], ◌∷◌, ◌++◌, length, Option, None, Some, Result, Ok, Err, IfOk, if◌then◌else◌, ◌==◌, slice_get, slice_set, refl, sym, ap, ◌∙◌, arith, length-append, bytes_eq}
use Rattle.std.proofs.lemmas.Bool.{eqb-true}
use Rattle.std.proofs.lemmas.Result.{IfOk-weaker}
use Rattle.std.specs.List.{All}
use Rattle.std.proofs.lemmas.Map.Entries.{All-lookup}
use Rattle.std.proofs.lemmas.List.Elements.{All-append, All-from_recursion}
use Rattle.snap_names.specs.Core.{Atom, Num, Comp}
use Rattle.snap_core.specs.Fits.{AtomFits, IndexFits}
use Rattle.snap_names.specs.Senses.{Span, Value, Sense, Plain, Split, Array, Constant, NameFault, Unknown, Kind, Arity, Words, Arities, Place, after, word, sense_of, literal, constant, atom_of, field_atom, array_atom, address_literal, split_of_sense, split_atoms, split_address, split_net, split_test, test_of_sense, field_equals, set_of_sense, field_gets, atoms_of_sense, value_atoms, atoms_behind, arity_seen, width_of, value_width, width}
use Rattle.snap_names.proofs.BoundedCore.{IsIndexed, TestFits, PolicyFits, Grows, Grows-same}
use Rattle.snap_names.proofs.BoundedSteps.{IfOk-or_fault, IfOk-after, IfOk-after_any, IfOk-if}

-- a component is one of c, and an array one of v
abbrev pub SenseFits : ℕ → ℕ → Sense → Type 0
SenseFits c v (Plain i) = i < c
SenseFits c v (Split a b n) = (a < c) × (b < c)
SenseFits c v (Array s) = s < v
SenseFits c v _ = Unit {0}

abbrev pub NamesFit : ℕ → ℕ → List (List ℕ × Sense) → Type 0
NamesFit c v names = All (λ x. SenseFits c v x.1) names

-- an array that is indexed as it was before, and the arities behind it
abbrev pub PlaceFits : Type 0 → ℕ → ℕ → Arities → Place → Type 0
PlaceFits W c v before p = Grows before p.arities × IsIndexed W v p.arities p.var p.index × IndexFits c p.index

sense_of-fits : (c v : ℕ) (e : Words) (name : Span) → NamesFit c v e.names → IfOk (sense_of e name) (SenseFits c v)
sense_of-fits c v e name h = IfOk-or_fault (SenseFits c v) (Unknown name.from) _ (All-lookup (SenseFits c v) (bytes_eq (word e.text name)) e.names h)

atom_of-fits : (c v at : ℕ) (s : Sense) → SenseFits c v s → IfOk (atom_of at s) (AtomFits c)
atom_of-fits c v at (Plain i) h = h
atom_of-fits c v at _ h = tt

field_atom-fits : (c v : ℕ) (e : Words) (x : Value) → NamesFit c v e.names → IfOk (field_atom e x) (AtomFits c)
field_atom-fits c v e (Value.Literal l) h = IfOk-after_any (AtomFits c) (literal e.text l) _ (λ n. tt)
field_atom-fits c v e (Value.Prefix a l) h = tt
field_atom-fits c v e (Value.Name t) h = IfOk-after (SenseFits c v) (AtomFits c) (sense_of e t) (atom_of t.from) (sense_of-fits c v e t h) (atom_of-fits c v t.from)

pub array_atom-fits : (c v : ℕ) (e : Words) (x : Value) → NamesFit c v e.names → IfOk (array_atom e x) (AtomFits c)
array_atom-fits c v e (Value.Literal l) h = IfOk-after_any (AtomFits c) (literal e.text l) _ (λ n. tt)
array_atom-fits c v e (Value.Prefix a l) h = tt
array_atom-fits c v e (Value.Name t) h = IfOk-after (SenseFits c v) (AtomFits c) (sense_of e t) (atom_of t.from) (sense_of-fits c v e t h) (atom_of-fits c v t.from)

abbrev AtomsFit : ℕ → Atom × Atom → Type 0
AtomsFit c x = AtomFits c x.0 × AtomFits c x.1

split_of_sense-fits : (c v n at : ℕ) (s : Sense) → SenseFits c v s → IfOk (split_of_sense n at s) (AtomsFit c)
split_of_sense-fits c v n at (Split a b m) h = IfOk-if (AtomsFit c) (m == n) (Ok (Comp a, Comp b)) (Kind at) h
split_of_sense-fits c v n at (Constant a true) h = (tt, tt)
split_of_sense-fits c v n at _ h = tt

split_atoms-fits : (c v : ℕ) (e : Words) (n : ℕ) (x : Value) → NamesFit c v e.names → IfOk (split_atoms e n x) (AtomsFit c)
split_atoms-fits c v e n (Value.Literal l) h = IfOk-after_any (AtomsFit c) (address_literal e l) _ (λ a. (tt, tt))
split_atoms-fits c v e n (Value.Prefix a l) h = tt
split_atoms-fits c v e n (Value.Name t) h = IfOk-after (SenseFits c v) (AtomsFit c) (sense_of e t) (split_of_sense n t.from) (sense_of-fits c v e t h) (split_of_sense-fits c v n t.from)

split_test-fits : (W : Type 0) (c v : ℕ) (seen : Arities) (e : Words) (a b n : ℕ) (x : Value) → a < c → b < c → IfOk (split_test e a b n x) (TestFits W c v seen)
split_test-fits W c v seen e a b n (Value.Literal l) h k = IfOk-after_any (TestFits W c v seen) (split_address e (Value.Literal l)) _ (λ y. (h, k))
split_test-fits W c v seen e a b n (Value.Prefix t l) h k = IfOk-after_any (TestFits W c v seen) (split_net e n t l) _ (λ y. h)
split_test-fits W c v seen e a b n (Value.Name t) h k = IfOk-after_any (TestFits W c v seen) (split_address e (Value.Name t)) _ (λ y. (h, k))

test_of_sense-fits : (W : Type 0) (c v : ℕ) (seen : Arities) (e : Words) (at : ℕ) (x : Value) (s : Sense) → SenseFits c v s → IfOk (test_of_sense e at x s) (TestFits W c v seen)
test_of_sense-fits W c v seen e at x (Plain i) h = IfOk-after_any (TestFits W c v seen) (constant e x) _ (λ n. h)
test_of_sense-fits W c v seen e at x (Split a b n) h = split_test-fits W c v seen e a b n x h.0 h.1
test_of_sense-fits W c v seen e at x _ h = tt

pub field_equals-fits : (W : Type 0) (c v : ℕ) (seen : Arities) (e : Words) (name : Span) (x : Value) → NamesFit c v e.names → IfOk (field_equals e name x) (TestFits W c v seen)
field_equals-fits W c v seen e name x h = IfOk-after (SenseFits c v) (TestFits W c v seen) (sense_of e name) (test_of_sense e name.from x) (sense_of-fits c v e name h) (test_of_sense-fits W c v seen e name.from x)

set_of_sense-fits : (W : Type 0) (c v : ℕ) (seen : Arities) (e : Words) (at : ℕ) (x : Value) → NamesFit c v e.names → (s : Sense) → SenseFits c v s → IfOk (set_of_sense e at x s) (PolicyFits W c v seen)
set_of_sense-fits W c v seen e at x w (Plain i) h = IfOk-after (AtomFits c) (PolicyFits W c v seen) (field_atom e x) _ (field_atom-fits c v e x w) (λ a k. (h, k))
set_of_sense-fits W c v seen e at x w (Split a b n) h = IfOk-after (AtomsFit c) (PolicyFits W c v seen) (split_atoms e n x) _ (split_atoms-fits c v e n x w) (λ y k. ((h.0, k.0), (h.1, k.1)))
set_of_sense-fits W c v seen e at x w _ h = tt

pub field_gets-fits : (W : Type 0) (c v : ℕ) (seen : Arities) (e : Words) (name : Span) (x : Value) → NamesFit c v e.names → IfOk (field_gets e name x) (PolicyFits W c v seen)
field_gets-fits W c v seen e name x h = IfOk-after (SenseFits c v) (PolicyFits W c v seen) (sense_of e name) (set_of_sense e name.from x) (sense_of-fits c v e name h) (set_of_sense-fits W c v seen e name.from x h)

atoms_of_sense-fits : (c v at : ℕ) (s : Sense) → SenseFits c v s → IfOk (atoms_of_sense at s) (IndexFits c)
atoms_of_sense-fits c v at (Plain i) h = All-from_recursion (AtomFits c) (Comp i ∷ []) (h, tt)
atoms_of_sense-fits c v at (Split a b n) h = All-from_recursion (AtomFits c) (Comp a ∷ Comp b ∷ []) (h.0, (h.1, tt))
atoms_of_sense-fits c v at (Constant n b) h = All-from_recursion (AtomFits c) (Num n ∷ []) (tt, tt)
atoms_of_sense-fits c v at _ h = tt

value_atoms-fits : (c v : ℕ) (e : Words) (x : Value) → NamesFit c v e.names → IfOk (value_atoms e x) (IndexFits c)
value_atoms-fits c v e (Value.Literal l) h = IfOk-after_any (IndexFits c) (literal e.text l) _ (λ n. All-from_recursion (AtomFits c) (Num n ∷ []) (tt, tt))
value_atoms-fits c v e (Value.Prefix a l) h = tt
value_atoms-fits c v e (Value.Name t) h = IfOk-after (SenseFits c v) (IndexFits c) (sense_of e t) (atoms_of_sense t.from) (sense_of-fits c v e t h) (atoms_of_sense-fits c v t.from)

pub atoms_behind-fits : (c v : ℕ) (e : Words) → NamesFit c v e.names → (before : List Atom) (xs : List Value) → IndexFits c before → IfOk (atoms_behind e before xs) (IndexFits c)
atoms_behind-fits c v e w before [] h = h
atoms_behind-fits c v e w before (x ∷ xs) h =
    IfOk-after (IndexFits c) (IndexFits c) (value_atoms e x) (λ es. atoms_behind e (before ++ es) xs) (value_atoms-fits c v e x w)
    (λ es k. atoms_behind-fits c v e w (before ++ es) xs (All-append (AtomFits c) before es h k))

-- A value gives as many atoms as its width says.
atoms_of_sense-length : (at : ℕ) (r : Result Sense NameFault) → IfOk (after r (atoms_of_sense at)) (λ es. length es ≡ width_of r)
atoms_of_sense-length at (Ok (Plain i)) = refl
atoms_of_sense-length at (Ok (Split a b n)) = refl
atoms_of_sense-length at (Ok (Constant n b)) = refl
atoms_of_sense-length at _ = tt

value_atoms-length : (e : Words) (x : Value) → IfOk (value_atoms e x) (λ es. length es ≡ value_width e x)
value_atoms-length e (Value.Literal l) = IfOk-after_any (λ es. length es ≡ 1) (literal e.text l) _ (λ n. refl)
value_atoms-length e (Value.Prefix a l) = tt
value_atoms-length e (Value.Name t) = atoms_of_sense-length t.from (sense_of e t)

atoms_behind-length : (e : Words) (before : List Atom) (xs : List Value) → IfOk (atoms_behind e before xs) (λ es. length es ≡ length before + width e xs)
atoms_behind-length e before [] = omega arith
atoms_behind-length e before (x ∷ xs) =
    IfOk-after (λ es. length es ≡ value_width e x) (λ es. length es ≡ length before + (value_width e x + width e xs)) (value_atoms e x) (λ es. atoms_behind e (before ++ es) xs) (value_atoms-length e x)
    (λ es k. IfOk-weaker (atoms_behind e (before ++ es) xs) (λ fs. length fs ≡ length (before ++ es) + width e xs) _ (λ fs l. omega (arith, l, k, length-append before es)) (atoms_behind-length e (before ++ es) xs))

pub index-length : (e : Words) (xs : List Value) → IfOk (atoms_behind e [] xs) (λ es. length es ≡ width e xs)
index-length e xs = IfOk-weaker (atoms_behind e [] xs) (λ es. length es ≡ 0 + width e xs) _ (λ es h. omega (arith, h)) (atoms_behind-length e [] xs)

width_of-some : (r : Result Sense NameFault) → 1 ≤ width_of r
width_of-some (Err f) = omega arith
width_of-some (Ok (Plain i)) = omega arith
width_of-some _ = omega arith

value_width-some : (e : Words) (x : Value) → 1 ≤ value_width e x
value_width-some e (Value.Name t) = width_of-some (sense_of e t)
value_width-some e _ = omega arith

pub width-some : (e : Words) (xs : List Value) → 1 ≤ length xs → 1 ≤ width e xs
width-some e [] h = absurd (omega (arith, h))
width-some e (x ∷ xs) h = omega (arith, value_width-some e x)

-- the arities behind an array that is indexed with n atoms
pub record IsSeen (before behind : Arities) (s n : ℕ) : Type 0 where
  pub grows : Grows before behind
  pub arity : slice_get behind s ≡ Some (Some n)

slice_get-set : (seen : Arities) (s n : ℕ) → s < length seen → slice_get (slice_set seen s (Some n)) s ≡ Some (Some n)
slice_get-set [] s n h = absurd (omega (arith, h))
slice_get-set (x ∷ xs) zero n h = refl
slice_get-set (x ∷ xs) (suc s) n h = slice_get-set xs s n (omega (arith, h))

Grows-set : (seen : Arities) (s n : ℕ) → slice_get seen s ≡ Some None → Grows seen (slice_set seen s (Some n))
Grows-set seen s n e = record { size = longer seen s; kept = kept seen s e }
  where
    longer : (xs : Arities) (i : ℕ) → length xs ≤ length (slice_set xs i (Some n))
    longer [] i = omega arith
    longer (x ∷ xs) zero = omega arith
    longer (x ∷ xs) (suc i) = omega (arith, longer xs i)

    kept : (xs : Arities) (i : ℕ) → slice_get xs i ≡ Some None → (j m : ℕ) → slice_get xs j ≡ Some (Some m) → slice_get (slice_set xs i (Some n)) j ≡ Some (Some m)
    kept [] i e j m h = cc
    kept (x ∷ xs) zero e zero m h = absurd (let no' : Some None ≡ Some (Some m) = sym e ∙ h in cc)
    kept (x ∷ xs) zero e (suc j) m h = h
    kept (x ∷ xs) (suc i) e zero m h = h
    kept (x ∷ xs) (suc i) e (suc j) m h = kept xs i e j m h

pub arity_seen-gives : (before : Arities) (s n at : ℕ) → s < length before → (o : Option (Option ℕ)) → slice_get before s ≡ o → IfOk (arity_seen before s n at o) (λ behind. IsSeen before behind s n)
arity_seen-gives before s n at h None e = absurd (none_within before s h e)
  where
    none_within : (xs : Arities) (i : ℕ) → i < length xs → slice_get xs i ≡ None → ⊥
    none_within [] i l w = omega (arith, l)
    none_within (x ∷ xs) zero l w = cc
    none_within (x ∷ xs) (suc i) l w = none_within xs i (omega (arith, l)) w
arity_seen-gives before s n at h (Some None) e = record { grows = Grows-set before s n e; arity = slice_get-set before s n h }
arity_seen-gives before s n at h (Some (Some m)) e = by_test (m == n) refl
  where
    by_test : (b : Bool) → (m == n) ≡ b → IfOk (if b then Ok before else Err (Arity at)) (λ behind. IsSeen before behind s n)
    by_test true same = record { grows = Grows-same before; arity = e ∙ ap (λ k. Some (Some k)) (eqb-true m n same) }
    by_test false other = tt
