-- A policy that `TreeReadings` knows is read without a fault, where arities so far agree.
use Rattle.std.proofs.Common.{◌≡◌, ℕ, zero, suc, ◌-◌, ◌^◌, ◌%◌, ◌<◌, ◌≤◌, min, Bool, true, ◌==◌, List, [], ◌∷◌, slice_get, slice_set, Option, None, Some, Result, Ok, Err, if◌then◌else◌, refl, sym, ap, ◌∙◌, subst, arith, ◌⊎◌, inl, inr}
use Rattle.std.proofs.lemmas.Bool.{eq-eqb, false≢true}
use Rattle.snap_names.specs.Core.{Atom, Num, Op, Put, Add, CoreTest, id_test, not_test, and_test, or_test, field_test, state_test, CorePolicy, filter, change, par, seq, choice, atomic, is_filter, net, whole_test}
use Rattle.snap_parse.specs.Tree.{PolicyTree, SequenceTree, ChoiceTree, if_tree, EitherTree, either_begin, either_more, BothTree, both_begin, both_more, SingleTree}
use Rattle.snap_names.specs.Senses.{Span, Value, Array, Policy, NameFault, Kind, Arity, Arities, Place, after, or_fault, sense_of, constant, array_atom, field_equals, field_gets, array_of_sense, arity_seen, atoms_behind, width, place_of, place}
use Rattle.snap_names.specs.Reading.{body_of, named, is_filter_or_fault, is_predicate, both_is_predicate, either_is_predicate, choice_is_predicate, sequence_is_predicate, policy_is_predicate, single_fault, both_fault, either_fault, Reading, TestReading, as_test, operand, joined, more, whole, whole_as, whole_test as a_whole_test, changed, tested, read_sequences, read_choices, read_choice, read_either, read_boths, read_both, read_singles, read_single, read_policy, either_as_test, both_as_test, single_as_test, subtraction}
use Rattle.snap_names.specs.Parts.{itself}
use Rattle.snap_names.specs.Spells.{Scope}
use Rattle.snap_names.proofs.BoundedSenses.{NamesFit}
use Rattle.snap_names.proofs.Faultless.{words, env}
use Rattle.snap_names.proofs.ReadTrees.{Agrees, array-below}
use Rattle.snap_names.proofs.Placed.{HasBoth, HasSingle}
use Rattle.snap_names.proofs.Readable.{after-gives, after_sense-gives, constant-gives, array_atom-gives, atoms_behind-gives, width-is, test-gives, test_split-gives, test_net-gives, gets-gives, gets_address-gives, gets_split-gives}
use Rattle.snap_names.proofs.TreeReadings.{Means, IsPlace, Changes, IsPolicy, sequence, plus, IsSequence, choose, semicolon, IsChoice, if_then, no_choice, IsEither, both, or, IsBoth, single, and, IsSingle, negation, identity, drop, group, undivided, body, test, test_split, test_net, gets, gets_address, gets_split, is_one, test_array, put, up, down, add, sub}

-- a reading gives this, and arities that agree
abbrev pub Gives : {X : Type 0} → (ℕ → ℕ) → Result (X × Arities) NameFault → X → Type 0
Gives atoms r x = (behind : Arities) × (r ≡ Ok (x, behind)) × Agrees atoms behind

-- no name stands for an array that has no number of 16 bits
record Numbered (c v : ℕ) (e : Scope) : Type 0 where
  pub names : NamesFit c v e.names
  pub few : v ≤ 65535

-- ---- indexed arrays
set-places : (xs : Arities) (s i n m : ℕ) → slice_get (slice_set xs s (Some n)) i ≡ Some (Some m) → ((i ≡ s) × (n ≡ m)) ⊎ (slice_get xs i ≡ Some (Some m))
set-places [] s i n m h = inr h
set-places (x ∷ xs) zero zero n m h = inl (refl, cc h)
set-places (x ∷ xs) zero (suc i) n m h = inr h
set-places (x ∷ xs) (suc s) zero n m h = inr h
set-places (x ∷ xs) (suc s) (suc i) n m h = next (set-places xs s i n m h)
  where
    next : ((i ≡ s) × (n ≡ m)) ⊎ (slice_get xs i ≡ Some (Some m)) → ((suc i ≡ suc s) × (n ≡ m)) ⊎ (slice_get xs i ≡ Some (Some m))
    next (inl k) = inl (ap suc k.0, k.1)
    next (inr k) = inr k

Agrees-set : (atoms : ℕ → ℕ) (seen : Arities) (v n : ℕ) → n ≡ atoms v → Agrees atoms seen → Agrees atoms (slice_set seen v (Some n))
Agrees-set atoms seen v n same h i m k = by_place (set-places seen v i n m k)
  where
    by_place : ((i ≡ v) × (n ≡ m)) ⊎ (slice_get seen i ≡ Some (Some m)) → m ≡ atoms i
    by_place (inl l) = sym l.1 ∙ same ∙ ap atoms (sym l.0)
    by_place (inr l) = h i m l

arity_seen-gives : (atoms : ℕ → ℕ) (before : Arities) (v n at : ℕ) → n ≡ atoms v → Agrees atoms before → (o : Option (Option ℕ)) → slice_get before v ≡ o → (behind : Arities) × (arity_seen before v n at o ≡ Ok behind) × Agrees atoms behind
arity_seen-gives atoms before v n at same h None k = (before, refl, h)
arity_seen-gives atoms before v n at same h (Some None) k = (slice_set before v (Some n), refl, Agrees-set atoms before v n same h)
arity_seen-gives atoms before v n at same h (Some (Some m)) k =
    let m_is : m ≡ n = h v m k ∙ sym same in
    (before, ap (λ j. if j == n then Ok before else Err (Arity at)) m_is ∙ ap (λ b. if b then Ok before else Err (Arity at)) (eq-eqb n n refl), h)

-- `name places`, and the arities behind it
abbrev PlaceGives : Scope → Result Place NameFault → ℕ → List Atom → Type 0
PlaceGives e r var index = (behind : Arities) × (r ≡ Ok (record { var = var; index = index; arities = behind })) × Agrees e.atoms behind

place-gives : (c v : ℕ) (e : Scope) → Numbered c v e → (before : Arities) → Agrees e.atoms before → (t : Span) (vs : List Value) (var : ℕ) (index : List Atom) → IsPlace e t vs var index → PlaceGives e (place (words e) before t vs) var index
place-gives c v e w before h t vs var index p =
    let n : ℕ = width (words e) vs in
    let below : var < v = array-below c v e t var w.names p.array in
    let short : min var 65535 ≡ var = omega (arith, below, w.few) in
    let a = arity_seen-gives e.atoms before var n t.from (width-is e vs index p.have ∙ p.size) h (slice_get before var) refl in (
      a.0,
      after-gives (after (sense_of (words e) t) (array_of_sense t.from)) (place_of (words e) before t.from vs) var (after_sense-gives e t (Array var) (array_of_sense t.from) p.array)
          ∙ after-gives (arity_seen before var n t.from (slice_get before var)) (λ arities. after (atoms_behind (words e) [] vs) (λ index. Ok (record { var = min var 65535; index = index; arities = arities }))) a.0 a.1
          ∙ after-gives (atoms_behind (words e) [] vs) (λ index. Ok (record { var = min var 65535; index = index; arities = a.0 })) index (atoms_behind-gives e [] vs index p.have)
          ∙ ap (λ s. Ok (record { var = s; index = index; arities = a.0 })) short,
      a.2,
    )

tested-gives : (e : Scope) (r : Result Place NameFault) (var : ℕ) (index : List Atom) (value : Result Atom NameFault) (a : Atom) → PlaceGives e r var index → value ≡ Ok a → Gives e.atoms (after r (tested value)) (filter (state_test var index a))
tested-gives e r var index value a h k = (
  h.0,
  after-gives r (tested value) (record { var = var; index = index; arities = h.0 }) h.1 ∙ after-gives value (λ b. Ok (filter (state_test var index b), h.0)) a k,
  h.2,
)

changed-gives : (c v : ℕ) (e : Scope) → Numbered c v e → (before : Arities) → Agrees e.atoms before → (t : Span) (vs : List Value) (op : Result Op NameFault) (o : Op) (p : CorePolicy) → op ≡ Ok o → Changes e t vs o p → Gives e.atoms (after (place (words e) before t vs) (changed op)) p
changed-gives c v e w before h t vs op o p k (var, index, is, same) =
    let r : Result Place NameFault = place (words e) before t vs in
    let a = place-gives c v e w before h t vs var index is in
    subst (Gives e.atoms (after r (changed op))) (sym same) (
      a.0,
      after-gives r (changed op) (record { var = var; index = index; arities = a.0 }) a.1 ∙ after-gives op (λ x. Ok (change (record { var = var; index = index; op = x }), a.0)) o k,
      a.2,
    )

-- ---- operands
first-gives : {A : Type 0} (atoms : ℕ → ℕ) (f : A → A → A) (read : Arities → Result (A × Arities) NameFault) (before : Arities) (y : A) → Gives atoms (read before) y → Gives atoms (more f read (None, before)) (Some y)
first-gives atoms f read before y h = (h.0, after-gives (read before) (λ z. Ok (Some (joined f None z.0), z.1)) (y, h.0) h.1, h.2)

more-gives : {A : Type 0} (atoms : ℕ → ℕ) (f : A → A → A) (r : Result (Option A × Arities) NameFault) (read : Arities → Result (A × Arities) NameFault) (x y : A)
    → Gives atoms r (Some x) → ((seen : Arities) → Agrees atoms seen → Gives atoms (read seen) y) → Gives atoms (after r (more f read)) (Some (f x y))
more-gives atoms f r read x y h k =
    let g = k h.0 h.2 in
    (g.0, after-gives r (more f read) (Some x, h.0) h.1 ∙ after-gives (read h.0) (λ z. Ok (Some (joined f (Some x) z.0), z.1)) (y, g.0) g.1, g.2)

whole-gives : {A : Type 0} (form : A → CorePolicy) (atoms : ℕ → ℕ) (r : Result (Option A × Arities) NameFault) (x : A) → Gives atoms r (Some x) → Gives atoms (after r (whole_as form)) (form x)
whole-gives form atoms r x h = (h.0, after-gives r (whole_as form) (Some x, h.0) h.1, h.2)

operand-gives : (atoms : ℕ → ℕ) (b : Bool) (f : NameFault) (r : Reading) (x : CoreTest) → b ≡ true → Gives atoms r (filter x) → Gives atoms (operand b f r) x
operand-gives atoms b f r x k h = (h.0, ap (λ a. operand a f r) k ∙ after-gives r (as_test f) (filter x, h.0) h.1, h.2)

then-gives : {A B : Type 0} (atoms : ℕ → ℕ) (r : Result (A × Arities) NameFault) (f : A → B) (x : A) → Gives atoms r x → Gives atoms (after r (λ y. Ok (f y.0, y.1))) (f x)
then-gives atoms r f x h = (h.0, after-gives r (λ y. Ok (f y.0, y.1)) (x, h.0) h.1, h.2)

plain-gives : {A B : Type 0} (atoms : ℕ → ℕ) (before : Arities) (r : Result A NameFault) (f : A → B) (x : A) → Agrees atoms before → r ≡ Ok x → Gives atoms (after r (λ y. Ok (f y, before))) (f x)
plain-gives atoms before r f x h k = (before, after-gives r (λ y. Ok (f y, before)) x k, h)

named-gives : (e : Scope) (t : Span) (i : ℕ) (p : CorePolicy) → Means e t (Policy i) → slice_get e.lets i ≡ Some p → named (env e) t ≡ Ok p
named-gives e t i p m k = after_sense-gives e t (Policy i) (body_of (env e) t.from) m ∙ ap (or_fault (Kind t.from)) k

-- ---- a part that is read as a filter is a predicate
either-some : (e : Scope) (t : EitherTree) (p : CorePolicy) → IsEither e t p → HasBoth t
either-some e _ _ (both k) = tt
either-some e _ _ (or k l) = tt

both-some : (e : Scope) (t : BothTree) (p : CorePolicy) → IsBoth e t p → HasSingle t
both-some e _ _ (single k) = tt
both-some e _ _ (and k l) = tt

several_either-is_predicate : (e : Scope) (t : EitherTree) (b : BothTree) → HasBoth t → either_is_predicate (env e) (either_more t b) ≡ true
several_either-is_predicate e (either_begin at) b h = absurd h
several_either-is_predicate e (either_more d c) b h = refl

several_both-is_predicate : (e : Scope) (t : BothTree) (s : SingleTree) → HasSingle t → both_is_predicate (env e) (both_more t s) ≡ true
several_both-is_predicate e (both_begin at) s h = absurd h
several_both-is_predicate e (both_more b c) s h = refl

mutual
  policy-is_predicate : (e : Scope) (t : PolicyTree) (p : CorePolicy) → IsPolicy e t p → is_filter p ≡ true → policy_is_predicate (env e) t ≡ true
  policy-is_predicate e _ p (sequence {s = s} k) h = sequence-is_predicate e s p k h
  policy-is_predicate e _ _ (plus k l) h = absurd (false≢true h)

  sequence-is_predicate : (e : Scope) (t : SequenceTree) (p : CorePolicy) → IsSequence e t p → is_filter p ≡ true → sequence_is_predicate (env e) t ≡ true
  sequence-is_predicate e _ p (choose {c = c} k) h = choice-is_predicate e c p k h
  sequence-is_predicate e _ _ (semicolon k l) h = absurd (false≢true h)

  choice-is_predicate : (e : Scope) (t : ChoiceTree) (p : CorePolicy) → IsChoice e t p → is_filter p ≡ true → choice_is_predicate (env e) t ≡ true
  choice-is_predicate e _ _ (if_then a b c) h = h
  choice-is_predicate e _ p (no_choice {t = t} k) h = either-is_predicate e t p k h

  either-is_predicate : (e : Scope) (t : EitherTree) (p : CorePolicy) → IsEither e t p → is_filter p ≡ true → either_is_predicate (env e) t ≡ true
  either-is_predicate e _ p (both {b = b} k) h = both-is_predicate e b p k h
  either-is_predicate e _ _ (or {t = t} {b = b} {x = x} k l) h = several_either-is_predicate e t b (either-some e t (filter x) k)

  both-is_predicate : (e : Scope) (t : BothTree) (p : CorePolicy) → IsBoth e t p → is_filter p ≡ true → both_is_predicate (env e) t ≡ true
  both-is_predicate e _ p (single {s = s} k) h = single-is_predicate e s p k h
  both-is_predicate e _ _ (and {t = t} {s = s} {x = x} k l) h = several_both-is_predicate e t s (both-some e t (filter x) k)

  single-is_predicate : (e : Scope) (t : SingleTree) (p : CorePolicy) → IsSingle e t p → is_filter p ≡ true → is_predicate (env e) t ≡ true
  single-is_predicate e _ _ (negation k) h = refl
  single-is_predicate e _ _ identity h = refl
  single-is_predicate e _ _ drop h = refl
  single-is_predicate e _ p (group {t = t} k) h = policy-is_predicate e t p k h
  single-is_predicate e _ _ (undivided k) h = h
  single-is_predicate e _ p (body {t = t} {i = i} m k) h = ap is_filter_or_fault (named-gives e t i p m k) ∙ h
  single-is_predicate e _ _ (test m k) h = refl
  single-is_predicate e _ _ (test_split m k) h = refl
  single-is_predicate e _ _ (test_net m k l) h = refl
  single-is_predicate e _ _ (gets m k) h = h
  single-is_predicate e _ _ (gets_address m k) h = h
  single-is_predicate e _ _ (gets_split m k) h = h
  single-is_predicate e _ _ (is_one k) h = refl
  single-is_predicate e _ _ (test_array k l) h = refl
  single-is_predicate e _ p (put k l) h = ap is_filter (sym l.3) ∙ h
  single-is_predicate e _ p (up l) h = ap is_filter (sym l.3) ∙ h
  single-is_predicate e _ p (down l) h = ap is_filter (sym l.3) ∙ h
  single-is_predicate e _ p (add k l) h = ap is_filter (sym l.3) ∙ h
  single-is_predicate e _ p (sub k l) h = ap is_filter (sym l.3) ∙ h

-- ---- trees
several_either-reads : (e : Scope) (t : EitherTree) (b : BothTree) (before : Arities) → HasBoth t → read_either (env e) (either_more t b) before ≡ after (read_boths (env e) (either_more t b) before) a_whole_test
several_either-reads e (either_begin at) b before h = absurd h
several_either-reads e (either_more d c) b before h = refl

several_both-reads : (e : Scope) (t : BothTree) (s : SingleTree) (before : Arities) → HasSingle t → read_both (env e) (both_more t s) before ≡ after (read_singles (env e) (both_more t s) before) a_whole_test
several_both-reads e (both_begin at) s before h = absurd h
several_both-reads e (both_more b c) s before h = refl

-- the test of a filter
abbrev test_in : CorePolicy → CoreTest
test_in (filter x) = x
test_in p = id_test

Gives-by : {X : Type 0} (atoms : ℕ → ℕ) (r s : Result (X × Arities) NameFault) (x : X) → r ≡ s → Gives atoms s x → Gives atoms r x
Gives-by atoms r s x same h = (h.0, same ∙ h.1, h.2)

or-gives : (e : Scope) (t : EitherTree) (b : BothTree) (x y : CoreTest) (before : Arities) → IsBoth e b (filter y) → Gives e.atoms (read_boths (env e) t before) (Some x) → ((seen : Arities) → Agrees e.atoms seen → Gives e.atoms (read_both (env e) b seen) (filter y))
    → Gives e.atoms (read_boths (env e) (either_more t b) before) (Some (or_test x y))
or-gives e t b x y before is h k =
    more-gives e.atoms or_test (read_boths (env e) t before) (both_as_test (env e) b) x y h
    (λ seen agrees. operand-gives e.atoms (both_is_predicate (env e) b) (both_fault (words e) b) (read_both (env e) b seen) y (both-is_predicate e b (filter y) is refl) (k seen agrees))

and-gives : (e : Scope) (t : BothTree) (s : SingleTree) (x y : CoreTest) (before : Arities) → IsSingle e s (filter y) → Gives e.atoms (read_singles (env e) t before) (Some x) → ((seen : Arities) → Agrees e.atoms seen → Gives e.atoms (read_single (env e) s seen) (filter y))
    → Gives e.atoms (read_singles (env e) (both_more t s) before) (Some (and_test x y))
and-gives e t s x y before is h k =
    more-gives e.atoms and_test (read_singles (env e) t before) (single_as_test (env e) s) x y h
    (λ seen agrees. operand-gives e.atoms (is_predicate (env e) s) (single_fault (words e) s) (read_single (env e) s seen) y (single-is_predicate e s (filter y) is refl) (k seen agrees))

if-gives : (e : Scope) (at : ℕ) (t : EitherTree) (m : PolicyTree) (u : ChoiceTree) (x : CoreTest) (p q : CorePolicy) (before : Arities) → IsEither e t (filter x) → Gives e.atoms (read_either (env e) t before) (filter x)
    → ((seen : Arities) → Agrees e.atoms seen → Gives e.atoms (read_sequences (env e) m seen) (Some p)) → ((seen : Arities) → Agrees e.atoms seen → Gives e.atoms (read_choice (env e) u seen) q)
    → Gives e.atoms (read_choice (env e) (if_tree at t m u) before) (choice x p q)
if-gives e at t m u x p q before is h k l =
    let test : TestReading = either_as_test (env e) t before in
    let a : Gives e.atoms test x = operand-gives e.atoms (either_is_predicate (env e) t) (either_fault (words e) t) (read_either (env e) t before) x (either-is_predicate e t (filter x) is refl) h in
    let b : Gives e.atoms (after (read_sequences (env e) m a.0) whole) p = whole-gives itself e.atoms (read_sequences (env e) m a.0) p (k a.0 a.2) in
    let d = l b.0 b.2 in (
      d.0,
      after-gives test (λ y. after (after (read_sequences (env e) m y.1) whole) (λ p. after (read_choice (env e) u p.1) (λ q. Ok (choice y.0 p.0 q.0, q.1)))) (x, a.0) a.1
          ∙ after-gives (after (read_sequences (env e) m a.0) whole) (λ p. after (read_choice (env e) u p.1) (λ q. Ok (choice x p.0 q.0, q.1))) (p, b.0) b.1
          ∙ after-gives (read_choice (env e) u b.0) (λ q. Ok (choice x p q.0, q.1)) (q, d.0) d.1,
      d.2,
    )

mutual
  sequences-gives : (c v : ℕ) (e : Scope) → Numbered c v e → (t : PolicyTree) (p : CorePolicy) → IsPolicy e t p → (before : Arities) → Agrees e.atoms before → Gives e.atoms (read_sequences (env e) t before) (Some p)
  sequences-gives c v e w _ p (sequence {s = s} k) before h = first-gives e.atoms par (λ seen. after (read_choices (env e) s seen) whole) before p (whole-gives itself e.atoms (read_choices (env e) s before) p (choices-gives c v e w s p k before h))
  sequences-gives c v e w _ _ (plus {t = t} {s = s} {p = p} {q = q} k l) before h =
      more-gives e.atoms par (read_sequences (env e) t before) (λ seen. after (read_choices (env e) s seen) whole) p q (sequences-gives c v e w t p k before h)
      (λ seen agrees. whole-gives itself e.atoms (read_choices (env e) s seen) q (choices-gives c v e w s q l seen agrees))

  choices-gives : (c v : ℕ) (e : Scope) → Numbered c v e → (t : SequenceTree) (p : CorePolicy) → IsSequence e t p → (before : Arities) → Agrees e.atoms before → Gives e.atoms (read_choices (env e) t before) (Some p)
  choices-gives c v e w _ p (choose {c = d} k) before h = first-gives e.atoms seq (read_choice (env e) d) before p (choice-gives c v e w d p k before h)
  choices-gives c v e w _ _ (semicolon {s = s} {c = d} {p = p} {q = q} k l) before h =
      more-gives e.atoms seq (read_choices (env e) s before) (read_choice (env e) d) p q (choices-gives c v e w s p k before h) (λ seen agrees. choice-gives c v e w d q l seen agrees)

  choice-gives : (c v : ℕ) (e : Scope) → Numbered c v e → (t : ChoiceTree) (p : CorePolicy) → IsChoice e t p → (before : Arities) → Agrees e.atoms before → Gives e.atoms (read_choice (env e) t before) p
  choice-gives c v e w _ p (no_choice {t = t} k) before h = either-gives c v e w t p k before h
  choice-gives c v e w _ _ (if_then {at = at} {t = t} {y = y} {n = n} {x = x} {p = p} {q = q} a b d) before h =
      if-gives e at t y n x p q before a (either-gives c v e w t (filter x) a before h) (λ seen agrees. sequences-gives c v e w y p b seen agrees) (λ seen agrees. choice-gives c v e w n q d seen agrees)

  either-gives : (c v : ℕ) (e : Scope) → Numbered c v e → (t : EitherTree) (p : CorePolicy) → IsEither e t p → (before : Arities) → Agrees e.atoms before → Gives e.atoms (read_either (env e) t before) p
  either-gives c v e w _ p (both {b = b} k) before h = both-gives c v e w b p k before h
  either-gives c v e w _ _ (or {t = t} {b = b} {x = x} {y = y} k l) before h =
      Gives-by e.atoms (read_either (env e) (either_more t b) before) (after (read_boths (env e) (either_more t b) before) a_whole_test) (filter (or_test x y)) (several_either-reads e t b before (either-some e t (filter x) k))
      (whole-gives filter e.atoms (read_boths (env e) (either_more t b) before) (or_test x y) (or-gives e t b x y before l (boths-gives c v e w t (filter x) k x refl before h) (λ seen agrees. both-gives c v e w b (filter y) l seen agrees)))

  boths-gives : (c v : ℕ) (e : Scope) → Numbered c v e → (t : EitherTree) (p : CorePolicy) → IsEither e t p → (x : CoreTest) → p ≡ filter x → (before : Arities) → Agrees e.atoms before → Gives e.atoms (read_boths (env e) t before) (Some x)
  boths-gives c v e w _ p (both {b = b} k) x same before h =
      first-gives e.atoms or_test (both_as_test (env e) b) before x
      (operand-gives e.atoms (both_is_predicate (env e) b) (both_fault (words e) b) (read_both (env e) b before) x (both-is_predicate e b p k (ap is_filter same)) (subst (Gives e.atoms (read_both (env e) b before)) same (both-gives c v e w b p k before h)))
  boths-gives c v e w _ _ (or {t = t} {b = b} {x = x} {y = y} k l) z same before h =
      subst (λ u. Gives e.atoms (read_boths (env e) (either_more t b) before) (Some u)) (ap test_in same)
      (or-gives e t b x y before l (boths-gives c v e w t (filter x) k x refl before h) (λ seen agrees. both-gives c v e w b (filter y) l seen agrees))

  both-gives : (c v : ℕ) (e : Scope) → Numbered c v e → (t : BothTree) (p : CorePolicy) → IsBoth e t p → (before : Arities) → Agrees e.atoms before → Gives e.atoms (read_both (env e) t before) p
  both-gives c v e w _ p (single {s = s} k) before h = single-gives c v e w s p k before h
  both-gives c v e w _ _ (and {t = t} {s = s} {x = x} {y = y} k l) before h =
      Gives-by e.atoms (read_both (env e) (both_more t s) before) (after (read_singles (env e) (both_more t s) before) a_whole_test) (filter (and_test x y)) (several_both-reads e t s before (both-some e t (filter x) k))
      (whole-gives filter e.atoms (read_singles (env e) (both_more t s) before) (and_test x y) (and-gives e t s x y before l (singles-gives c v e w t (filter x) k x refl before h) (λ seen agrees. single-gives c v e w s (filter y) l seen agrees)))

  singles-gives : (c v : ℕ) (e : Scope) → Numbered c v e → (t : BothTree) (p : CorePolicy) → IsBoth e t p → (x : CoreTest) → p ≡ filter x → (before : Arities) → Agrees e.atoms before → Gives e.atoms (read_singles (env e) t before) (Some x)
  singles-gives c v e w _ p (single {s = s} k) x same before h =
      first-gives e.atoms and_test (single_as_test (env e) s) before x
      (operand-gives e.atoms (is_predicate (env e) s) (single_fault (words e) s) (read_single (env e) s before) x (single-is_predicate e s p k (ap is_filter same)) (subst (Gives e.atoms (read_single (env e) s before)) same (single-gives c v e w s p k before h)))
  singles-gives c v e w _ _ (and {t = t} {s = s} {x = x} {y = y} k l) z same before h =
      subst (λ u. Gives e.atoms (read_singles (env e) (both_more t s) before) (Some u)) (ap test_in same)
      (and-gives e t s x y before l (singles-gives c v e w t (filter x) k x refl before h) (λ seen agrees. single-gives c v e w s (filter y) l seen agrees))

  single-gives : (c v : ℕ) (e : Scope) → Numbered c v e → (t : SingleTree) (p : CorePolicy) → IsSingle e t p → (before : Arities) → Agrees e.atoms before → Gives e.atoms (read_single (env e) t before) p
  single-gives c v e w _ _ (negation {s = s} {x = x} k) before h =
      then-gives e.atoms (single_as_test (env e) s before) (λ y. filter (not_test y)) x
      (operand-gives e.atoms (is_predicate (env e) s) (single_fault (words e) s) (read_single (env e) s before) x (single-is_predicate e s (filter x) k refl) (single-gives c v e w s (filter x) k before h))
  single-gives c v e w _ _ identity before h = (before, refl, h)
  single-gives c v e w _ _ drop before h = (before, refl, h)
  single-gives c v e w _ p (group {t = t} k) before h = whole-gives itself e.atoms (read_sequences (env e) t before) p (sequences-gives c v e w t p k before h)
  single-gives c v e w _ _ (undivided {t = t} {p = p} k) before h =
      then-gives e.atoms (after (read_sequences (env e) t before) whole) atomic p (whole-gives itself e.atoms (read_sequences (env e) t before) p (sequences-gives c v e w t p k before h))
  single-gives c v e w _ p (body {t = t} {i = i} m k) before h = plain-gives e.atoms before (named (env e) t) (λ q. q) p h (named-gives e t i p m k)
  single-gives c v e w _ _ (test {t = t} {v = y} {c = i} {n = n} m k) before h = plain-gives e.atoms before (field_equals (words e) t y) filter (field_test i n) h (test-gives e t y i n m k)
  single-gives c v e w _ _ (test_split {t = t} {v = y} {a = a} {b = b} {n = n} {x = x} m k) before h = plain-gives e.atoms before (field_equals (words e) t y) filter (whole_test a b n x) h (test_split-gives e t y a b n x m k)
  single-gives c v e w _ _ (test_net {t = t} {u = u} {l = l} {a = a} {b = b} {n = n} {x = x} m k j) before h = plain-gives e.atoms before _ filter (field_test a (net n x)) h (test_net-gives e t u l a b n x m k j)
  single-gives c v e w _ _ (gets {t = t} {v = y} {c = i} {x = x} m k) before h = plain-gives e.atoms before (field_gets (words e) t y) (λ q. q) _ h (gets-gives e t y i x m k)
  single-gives c v e w _ _ (gets_address {t = t} {v = y} {a = a} {b = b} {n = n} {x = x} m k) before h = plain-gives e.atoms before (field_gets (words e) t y) (λ q. q) _ h (gets_address-gives e t y a b n x m k)
  single-gives c v e w _ _ (gets_split {t = t} {u = u} {a = a} {b = b} {c = i} {d = j} {n = n} m k) before h = plain-gives e.atoms before _ (λ q. q) _ h (gets_split-gives e t u a b i j n m k)
  single-gives c v e w _ _ (is_one {t = t} {vs = vs} {var = var} {index = index} k) before h = tested-gives e (place (words e) before t vs) var index (Ok (Num 1)) (Num 1) (place-gives c v e w before h t vs var index k) refl
  single-gives c v e w _ _ (test_array {t = t} {vs = vs} {v = y} {var = var} {index = index} {x = x} k l) before h =
      tested-gives e (place (words e) before t vs) var index (array_atom (words e) y) x (place-gives c v e w before h t vs var index k) (array_atom-gives e y x l)
  single-gives c v e w _ p (put {t = t} {vs = vs} {v = y} {x = x} k l) before h =
      changed-gives c v e w before h t vs (after (array_atom (words e) y) (λ a. Ok (Put a))) (Put x) p (after-gives (array_atom (words e) y) (λ a. Ok (Put a)) x (array_atom-gives e y x k)) l
  single-gives c v e w _ p (up {t = t} {vs = vs} l) before h = changed-gives c v e w before h t vs (Ok (Add 1)) (Add 1) p refl l
  single-gives c v e w _ p (down {t = t} {vs = vs} l) before h = changed-gives c v e w before h t vs (Ok (Add (2 ^ 64 - 1))) (Add (2 ^ 64 - 1)) p refl l
  single-gives c v e w _ p (add {t = t} {vs = vs} {v = y} {n = n} k l) before h =
      changed-gives c v e w before h t vs (after (constant (words e) y) (λ i. Ok (Add i))) (Add n) p (after-gives (constant (words e) y) (λ i. Ok (Add i)) n (constant-gives e y n k)) l
  single-gives c v e w _ p (sub {t = t} {vs = vs} {v = y} {n = n} k l) before h =
      changed-gives c v e w before h t vs (subtraction (words e) y) (Add ((2 ^ 64 - n) % 2 ^ 64)) p (after-gives (constant (words e) y) (λ i. Ok (Add ((2 ^ 64 - i) % 2 ^ 64))) n (constant-gives e y n k)) l

pub policy-gives : (c v : ℕ) (e : Scope) → NamesFit c v e.names → v ≤ 65535 → (t : PolicyTree) (p : CorePolicy) → IsPolicy e t p → (before : Arities) → Agrees e.atoms before → Gives e.atoms (read_policy (env e) t before) p
policy-gives c v e names few t p k before h = whole-gives itself e.atoms (read_sequences (env e) t before) p (sequences-gives c v e (record { names = names; few = few }) t p k before h)
