-- What each part of a tree reads as fits, where what is known does. Where the tree is as those of texts, arrays are few and arities agree, it is as `TreeReadings` says.
use Rattle.std.proofs.Common.{◌≡◌, ℕ, ◌-◌, ◌^◌, ◌%◌, ◌<◌, ◌≤◌, min, Bool, true, false, List, [], ◌∷◌, length, slice_get, Option, None, Some, Result, Ok, Err, IfOk, IfSome, refl, sym, ap, ◌∙◌, subst, arith, le_refl, le_trans, lt_of_lt_of_le, bytes_eq}
use Rattle.std.proofs.lemmas.Result.{IfOk-weaker}
use Rattle.std.specs.List.{All}
use Rattle.std.proofs.lemmas.List.Elements.{All-nil, All-weaker}
use Rattle.std.proofs.lemmas.Map.Entries.{All-lookup}
use Rattle.snap_core.specs.Fits.{AtomFits, OpFits, IndexFits}
use Rattle.snap_parse.specs.Tree.{PolicyTree, policy_begin, policy_more, SequenceTree, sequence_begin, sequence_more, ChoiceTree, if_tree, plain_tree, EitherTree, either_begin, either_more, BothTree, both_begin, both_more, SingleTree, not_tree, id_tree, drop_tree, group_tree, atomic_tree, name_tree, test_tree, set_tree, bare_tree, array_test_tree, array_set_tree, up_tree, down_tree, array_add_tree, array_sub_tree}
use Rattle.snap_names.specs.Core.{Atom, Num, Op, Put, Add, CoreTest, not_test, and_test, or_test, state_test, CorePolicy, filter, par, seq, choice, atomic}
use Rattle.snap_names.specs.Senses.{Span, Value, Sense, Array, Policy, NameFault, Kind, Arities, Place, after, or_fault, word, sense_of, constant, array_atom, field_equals, field_gets, array_of_sense, arity_seen, atoms_behind, width, place_of, place}
use Rattle.snap_names.specs.Reading.{Env, body_of, named, is_predicate, both_is_predicate, either_is_predicate, single_fault, both_fault, either_fault, Reading, TestReading, as_test, operand, more, whole, whole_as, changed, tested, read_sequences, read_choices, read_choice, read_either, read_boths, read_both, read_singles, read_single, read_policy, either_as_test, both_as_test, single_as_test, subtraction}
use Rattle.snap_names.specs.Parts.{itself}
use Rattle.snap_names.specs.Spells.{Scope}
use Rattle.snap_names.proofs.BoundedCore.{TestFits, PolicyFits, PolicyFits-more, Grows, Grows-same, Grows-then}
use Rattle.snap_names.proofs.BoundedSenses.{SenseFits, NamesFit, PlaceFits, array_atom-fits, field_equals-fits, field_gets-fits, atoms_behind-fits, index-length, width-some, IsSeen, arity_seen-gives}
use Rattle.snap_names.proofs.BoundedSteps.{All-slice_get, IfOk-or_fault, IfOk-after, IfOk-both}
use Rattle.snap_names.proofs.Faultless.{words, env, or_fault-is, sense_of-means, constant-atoms, array_atom-atoms, Behind, atoms_behind-atoms, field_equals-is, field_gets-is, array_of_sense-is}
use Rattle.snap_names.proofs.Placed.{HasSequence, HasChoice, HasBoth, HasSingle, PolicyPlaced, SequencePlaced, ChoicePlaced, EitherPlaced, BothPlaced, SinglePlaced}
use Rattle.snap_names.proofs.TreeReadings.{Means, HasAtoms, HaveAtoms, IsPlace, Changes, IsPolicy, sequence, plus, IsSequence, choose, semicolon, IsChoice, if_then, no_choice, IsEither, both, or, IsBoth, single, and, IsSingle, negation, identity, drop, group, undivided, body, is_one, test_array, put, up, down, add, sub}

-- each array that was indexed has as many atoms
abbrev pub Agrees : (ℕ → ℕ) → Arities → Type 0
Agrees atoms seen = (i n : ℕ) → slice_get seen i ≡ Some (Some n) → n ≡ atoms i

pub Agrees-before : (atoms : ℕ → ℕ) (a b : Arities) → Grows a b → Agrees atoms b → Agrees atoms a
Agrees-before atoms a b g k i n h = k i n (g.kept i n h)

pub array-below : (c v : ℕ) (e : Scope) (t : Span) (i : ℕ) → NamesFit c v e.names → Means e t (Array i) → i < v
array-below c v e t i h m = subst (λ o. IfSome o (SenseFits c v)) m (All-lookup (SenseFits c v) (bytes_eq (word e.text t)) e.names h)

-- What is known has no component beyond c and no array beyond v, and each array is indexed as was seen.
pub record EnvFits (W : Type 0) (c v : ℕ) (e : Env) (seen : Arities) : Type 0 where
  pub names : NamesFit c v e.words.names
  pub lets : All (PolicyFits W c v seen) e.lets
  pub room : v ≤ length seen

EnvFits-grows : (W : Type 0) (c v : ℕ) (e : Env) (before behind : Arities) → EnvFits W c v e before → Grows before behind → EnvFits W c v e behind
EnvFits-grows W c v e before behind h g = record {
  names = h.names;
  lets = All-weaker (PolicyFits W c v before) (PolicyFits W c v behind) (PolicyFits-more W c c v v before behind (le_refl c) (le_refl v) g) e.lets h.lets;
  room = le_trans h.room g.size;
}

-- ---- step by step
-- what holds of what is read, and of the arities behind it
abbrev pub Reads : {A : Type 0} → Arities → (Arities → A → Type 0) → Result (A × Arities) NameFault → Type 0
Reads before P r = IfOk r (λ x. Grows before x.1 × P x.1 x.0)

Reads-before : {A : Type 0} (P : Arities → A → Type 0) (a b : Arities) → Grows a b → (r : Result (A × Arities) NameFault) → Reads b P r → Reads a P r
Reads-before P a b g (Ok x) h = (Grows-then a b x.1 g h.0, h.1)
Reads-before P a b g (Err f) h = tt

Reads-after : {A B : Type 0} (P : Arities → A → Type 0) (Q : Arities → B → Type 0) (before : Arities) (r : Result (A × Arities) NameFault) (f : A × Arities → Result (B × Arities) NameFault)
    → Reads before P r → ((x : A) (seen : Arities) → Grows before seen → P seen x → Reads seen Q (f (x, seen))) → Reads before Q (after r f)
Reads-after P Q before (Ok (x, seen)) f h k = Reads-before Q before seen h.0 (f (x, seen)) (k x seen h.0 h.1)
Reads-after P Q before (Err e) f h k = tt

Reads-weaker : {A : Type 0} (P Q : Arities → A → Type 0) (before : Arities) (r : Result (A × Arities) NameFault) → ((seen : Arities) (x : A) → P seen x → Q seen x) → Reads before P r → Reads before Q r
Reads-weaker P Q before (Ok x) k h = (h.0, k x.1 x.0 h.1)
Reads-weaker P Q before (Err f) k h = tt

-- what is read changes, and no array is indexed
Reads-then : {A B : Type 0} (P : Arities → A → Type 0) (Q : Arities → B → Type 0) (before : Arities) (f : A → B) (r : Result (A × Arities) NameFault) → ((seen : Arities) (x : A) → P seen x → Q seen (f x))
    → Reads before P r → Reads before Q (after r (λ x. Ok (f x.0, x.1)))
Reads-then P Q before f r k h = Reads-after P Q before r (λ x. Ok (f x.0, x.1)) h (λ x seen g p. (Grows-same seen, k seen x p))

Reads-plain : {A : Type 0} (P : A → Type 0) (Q : Arities → CorePolicy → Type 0) (before : Arities) (f : A → CorePolicy) (r : Result A NameFault) → ((x : A) → P x → Q before (f x)) → IfOk r P
    → Reads before Q (after r (λ x. Ok (f x, before)))
Reads-plain P Q before f r k h = IfOk-after P (λ (x : CorePolicy × Arities). Grows before x.1 × Q x.1 x.0) r (λ x. Ok (f x, before)) h (λ x p. (Grows-same before, k x p))

-- an operand that is there
abbrev Has : {A : Type 0} → (Arities → A → Type 0) → Arities → Option A → Type 0
Has P seen None = ⊥
Has P seen (Some x) = P seen x

first-reads : {A : Type 0} (P Q : Arities → A → Type 0) (f : A → A → A) (before : Arities) (read : Arities → Result (A × Arities) NameFault) → ((seen : Arities) (x : A) → P seen x → Q seen x)
    → Reads before P (read before) → Reads before (Has Q) (more f read (None, before))
first-reads P Q f before read k h = Reads-after P (Has Q) before (read before) (λ y. Ok (Some y.0, y.1)) h (λ y seen g p. (Grows-same seen, k seen y p))

-- operands, and one more
more-reads : {A : Type 0} (P Q R : Arities → A → Type 0) (f : A → A → A) (before : Arities) (r : Result (Option A × Arities) NameFault) (read : Arities → Result (A × Arities) NameFault)
    → ((a b : Arities) → Grows a b → (x : A) → P a x → P b x) → ((seen : Arities) (x y : A) → P seen x → Q seen y → R seen (f x y))
    → Reads before (Has P) r → ((seen : Arities) → Grows before seen → Reads seen Q (read seen)) → Reads before (Has R) (after r (more f read))
more-reads {A = A} P Q R f before r read stays join h hr = Reads-after (Has P) (Has R) before r (more f read) h by_operand
  where
    by_operand : (o : Option A) (seen : Arities) → Grows before seen → Has P seen o → Reads seen (Has R) (more f read (o, seen))
    by_operand None seen g p = absurd p
    by_operand (Some x) seen g p = Reads-after Q (Has R) seen (read seen) (λ y. Ok (Some (f x y.0), y.1)) (hr seen g) (λ y late k q. (Grows-same late, join late x y (stays seen late k x p) q))

whole-reads : {A : Type 0} (form : A → CorePolicy) (P : Arities → CorePolicy → Type 0) (before : Arities) (r : Result (Option A × Arities) NameFault) → Reads before (Has (λ seen x. P seen (form x))) r → Reads before P (after r (whole_as form))
whole-reads {A} form P before r h = Reads-after (Has (λ seen x. P seen (form x))) P before r (whole_as form) h by_operand
  where
    by_operand : (o : Option A) (seen : Arities) → Grows before seen → Has (λ late x. P late (form x)) seen o → Reads seen P (whole_as form (o, seen))
    by_operand None seen g p = absurd p
    by_operand (Some x) seen g p = (Grows-same seen, p)

operand-reads : (P : Arities → CorePolicy → Type 0) (before : Arities) (b : Bool) (f : NameFault) (r : Reading) → Reads before P r → Reads before (λ seen x. P seen (filter x)) (operand b f r)
operand-reads P before true f r h = Reads-after P (λ seen x. P seen (filter x)) before r (as_test f) h by_form
  where
    by_form : (p : CorePolicy) (seen : Arities) → Grows before seen → P seen p → Reads seen (λ late x. P late (filter x)) (as_test f (p, seen))
    by_form (filter x) seen g h = (Grows-same seen, h)
    by_form _ seen g h = tt
operand-reads P before false f r h = tt

-- an atom or a number that an operation is made of
abbrev Makes : {X : Type 0} → (X → Type 0) → (X → Op) → Op → Type 0
Makes {X = X} V f o = (x : X) × V x × (o ≡ f x)

makes : {X : Type 0} (c : ℕ) (V : X → Type 0) (f : X → Op) (r : Result X NameFault) → ((x : X) → V x → OpFits c (f x)) → IfOk r V → IfOk (after r (λ x. Ok (f x))) (λ o. OpFits c o × Makes V f o)
makes c V f (Ok x) fits h = (fits x h, (x, h, refl))
makes c V f (Err e) fits h = tt

short-array : (e : Scope) (t : Span) (vs : List Value) (i : ℕ) (index : List Atom) → i ≤ 65535 → IsPlace e t vs i index → IsPlace e t vs (min i 65535) index
short-array e t vs i index h p = let same : i ≡ min i 65535 = omega (arith, h) in subst (λ j. IsPlace e t vs j index) same p

module _ (W : Type 0) (c v : ℕ) (e : Scope) where
  -- It fits, and where the tree is as those of texts it is as this says.
  abbrev pub Is : (CorePolicy → Type 0) → Arities → CorePolicy → Type 0
  Is R seen p = PolicyFits W c v seen p × (W → v ≤ 65535 → Agrees e.atoms seen → R p)

  abbrev IsTest : (CorePolicy → Type 0) → Arities → CoreTest → Type 0
  IsTest R seen x = Is R seen (filter x)

  Is-more : (R : CorePolicy → Type 0) (a b : Arities) → Grows a b → (p : CorePolicy) → Is R a p → Is R b p
  Is-more R a b g p h = (PolicyFits-more W c c v v a b (le_refl c) (le_refl v) g p h.0, λ w few k. h.1 w few (Agrees-before e.atoms a b g k))

  IsTest-more : (R : CorePolicy → Type 0) (a b : Arities) → Grows a b → (x : CoreTest) → IsTest R a x → IsTest R b x
  IsTest-more R a b g x h = Is-more R a b g (filter x) h

  body_of-reads : (t : Span) (seen : Arities) → EnvFits W c v (env e) seen → (s : Sense) → Means e t s → IfOk (body_of (env e) t.from s) (λ p. PolicyFits W c v seen p × IsSingle e (name_tree t) p)
  body_of-reads t seen h (Policy i) m =
      IfOk-both (PolicyFits W c v seen) (IsSingle e (name_tree t)) (or_fault (Kind t.from) (slice_get e.lets i))
      (IfOk-or_fault (PolicyFits W c v seen) (Kind t.from) (slice_get e.lets i) (All-slice_get (PolicyFits W c v seen) e.lets i h.lets))
      (IfOk-weaker (or_fault (Kind t.from) (slice_get e.lets i)) (λ p. slice_get e.lets i ≡ Some p) (IsSingle e (name_tree t)) (λ p k. body m k) (or_fault-is (Kind t.from) (slice_get e.lets i)))
  body_of-reads t seen h _ m = tt

  named-reads : (t : Span) (seen : Arities) → EnvFits W c v (env e) seen → IfOk (named (env e) t) (λ p. PolicyFits W c v seen p × IsSingle e (name_tree t) p)
  named-reads t seen h = IfOk-after (Means e t) (λ p. PolicyFits W c v seen p × IsSingle e (name_tree t) p) (sense_of (words e) t) (body_of (env e) t.from) (sense_of-means e t) (body_of-reads t seen h)

  -- ---- indexed arrays
  abbrev PlaceIs : Arities → Span → List Value → Place → Type 0
  PlaceIs before t vs p = PlaceFits W c v before p × (W → v ≤ 65535 → Agrees e.atoms p.arities → IsPlace e t vs p.var p.index)

  abbrev IndexLong : List Value → List Atom → Type 0
  IndexLong vs es = IndexFits c es × (length es ≡ width (words e) vs)

  place_of-reads : (before : Arities) (t : Span) (vs : List Value) → EnvFits W c v (env e) before → (W → 1 ≤ length vs) → (i : ℕ) → Means e t (Array i) → IfOk (place_of (words e) before t.from vs i) (PlaceIs before t vs)
  place_of-reads before t vs h some i m =
      let below : i < v = array-below c v e t i h.names m in
      let w = words e in
      IfOk-after (λ behind. IsSeen before behind i (width w vs)) (PlaceIs before t vs) (arity_seen before i (width w vs) t.from (slice_get before i)) _
      (arity_seen-gives before i (width w vs) t.from (lt_of_lt_of_le below h.room) (slice_get before i) refl) (λ arities seen.
      IfOk-after (λ es. IndexLong vs es × Behind e [] vs es) (PlaceIs before t vs) (atoms_behind w [] vs) _
      (IfOk-both (IndexLong vs) (Behind e [] vs) (atoms_behind w [] vs) (IfOk-both (IndexFits c) (λ es. length es ≡ width w vs) (atoms_behind w [] vs) (atoms_behind-fits c v w h.names [] vs (All-nil (AtomFits c))) (index-length w vs)) (atoms_behind-atoms e [] vs)) (λ index k.
      let arity : slice_get arities i ≡ Some (Some (length index)) = seen.arity ∙ ap (λ n. Some (Some n)) (sym k.0.1) in (
        (seen.grows, record { array = i; below = below; number = refl; arity = arity; some = λ q. omega (arith, width-some w vs (some q), k.0.1) }, k.0.0),
        λ q few agrees. short-array e t vs i index (omega (arith, below, few)) (record { array = m; have = subst (HaveAtoms e vs) (sym k.1.2) k.1.1; size = agrees i (length index) arity }),
      )))

  place-reads : (before : Arities) (t : Span) (vs : List Value) → EnvFits W c v (env e) before → (W → 1 ≤ length vs) → IfOk (place (words e) before t vs) (PlaceIs before t vs)
  place-reads before t vs h some =
      IfOk-after (λ i. Means e t (Array i)) (PlaceIs before t vs) (after (sense_of (words e) t) (array_of_sense t.from)) (place_of (words e) before t.from vs) (array_of_sense-is e t) (place_of-reads before t vs h some)

  tested-reads : (s : SingleTree) (before : Arities) (t : Span) (vs : List Value) (V : Atom → Type 0) (value : Result Atom NameFault) → EnvFits W c v (env e) before → (W → 1 ≤ length vs) → IfOk value (λ a. AtomFits c a × V a)
      → ((var : ℕ) (index : List Atom) (a : Atom) → IsPlace e t vs var index → V a → IsSingle e s (filter (state_test var index a))) → Reads before (Is (IsSingle e s)) (after (place (words e) before t vs) (tested value))
  tested-reads s before t vs V value h some k f =
      IfOk-after (PlaceIs before t vs) (λ x. Grows before x.1 × Is (IsSingle e s) x.1 x.0) (place (words e) before t vs) (tested value) (place-reads before t vs h some) (λ p hp.
      IfOk-after (λ a. AtomFits c a × V a) (λ (x : CorePolicy × Arities). Grows before x.1 × Is (IsSingle e s) x.1 x.0) value _ k (λ a ha. (hp.0.0, ((hp.0.1, hp.0.2, ha.0), λ w few agrees. f p.var p.index a (hp.1 w few agrees) ha.1))))

  changed-reads : (s : SingleTree) (before : Arities) (t : Span) (vs : List Value) (V : Op → Type 0) (op : Result Op NameFault) → EnvFits W c v (env e) before → (W → 1 ≤ length vs) → IfOk op (λ o. OpFits c o × V o)
      → ((o : Op) (p : CorePolicy) → V o → Changes e t vs o p → IsSingle e s p) → Reads before (Is (IsSingle e s)) (after (place (words e) before t vs) (changed op))
  changed-reads s before t vs V op h some k f =
      IfOk-after (PlaceIs before t vs) (λ x. Grows before x.1 × Is (IsSingle e s) x.1 x.0) (place (words e) before t vs) (changed op) (place-reads before t vs h some) (λ p hp.
      IfOk-after (λ o. OpFits c o × V o) (λ (x : CorePolicy × Arities). Grows before x.1 × Is (IsSingle e s) x.1 x.0) op _ k (λ o ho. (hp.0.0, ((hp.0.1, hp.0.2, ho.0), λ w few agrees. f o _ ho.1 (p.var, p.index, hp.1 w few agrees, refl)))))

  -- ---- trees
  -- what the operands of a part are, where it has some
  abbrev PolicyHas : PolicyTree → Arities → Option CorePolicy → Type 0
  PolicyHas (policy_begin at) seen o = Unit {0}
  PolicyHas (policy_more p s) seen o = Has (Is (IsPolicy e (policy_more p s))) seen o

  abbrev SequenceHas : SequenceTree → Arities → Option CorePolicy → Type 0
  SequenceHas (sequence_begin at) seen o = Unit {0}
  SequenceHas (sequence_more s d) seen o = Has (Is (IsSequence e (sequence_more s d))) seen o

  abbrev EitherHas : EitherTree → Arities → Option CoreTest → Type 0
  EitherHas (either_begin at) seen o = Unit {0}
  EitherHas (either_more d b) seen o = Has (IsTest (IsEither e (either_more d b))) seen o

  abbrev BothHas : BothTree → Arities → Option CoreTest → Type 0
  BothHas (both_begin at) seen o = Unit {0}
  BothHas (both_more b s) seen o = Has (IsTest (IsBoth e (both_more b s))) seen o

  whole_policy : (t : PolicyTree) → (W → HasSequence t) → (before : Arities) → Reads before (PolicyHas t) (read_sequences (env e) t before) → Reads before (Is (IsPolicy e t)) (read_policy (env e) t before)
  whole_policy (policy_begin at) some before h = (Grows-same before, (tt, λ w few g. absurd (some w)))
  whole_policy (policy_more p s) some before h = whole-reads itself (Is (IsPolicy e (policy_more p s))) before (read_sequences (env e) (policy_more p s) before) h

  whole_sequence : (t : SequenceTree) → (W → HasChoice t) → (before : Arities) → Reads before (SequenceHas t) (read_choices (env e) t before) → Reads before (Is (IsSequence e t)) (after (read_choices (env e) t before) whole)
  whole_sequence (sequence_begin at) some before h = (Grows-same before, (tt, λ w few g. absurd (some w)))
  whole_sequence (sequence_more s d) some before h = whole-reads itself (Is (IsSequence e (sequence_more s d))) before (read_choices (env e) (sequence_more s d) before) h

  choice-reads : (at : ℕ) (t : EitherTree) (y : PolicyTree) (n : ChoiceTree) (before : Arities) (test : TestReading) (met unmet : Arities → Reading)
      → Reads before (IsTest (IsEither e t)) test → ((seen : Arities) → Grows before seen → Reads seen (Is (IsPolicy e y)) (met seen)) → ((seen : Arities) → Grows before seen → Reads seen (Is (IsChoice e n)) (unmet seen))
      → Reads before (Is (IsChoice e (if_tree at t y n))) (after test (λ x. after (met x.1) (λ p. after (unmet p.1) (λ q. Ok (choice x.0 p.0 q.0, q.1)))))
  choice-reads at t y n before test met unmet h k l =
      Reads-after (IsTest (IsEither e t)) (Is (IsChoice e (if_tree at t y n))) before test _ h (λ x a ga hx.
      Reads-after (Is (IsPolicy e y)) (Is (IsChoice e (if_tree at t y n))) a (met a) _ (k a ga) (λ p b gb hp.
      Reads-after (Is (IsChoice e n)) (Is (IsChoice e (if_tree at t y n))) b (unmet b) _ (l b (Grows-then before a b ga gb)) (λ q d gd hq.
      let i = IsTest-more (IsEither e t) a d (Grows-then a b d gb gd) x hx in
      let j = Is-more (IsPolicy e y) b d gd p hp in
      (Grows-same d, ((i.0, j.0, hq.0), λ w few g. if_then (i.1 w few g) (j.1 w few g) (hq.1 w few g))))))

  or-read : (d : EitherTree) (b : BothTree) (before : Arities) (r : Result (Option CoreTest × Arities) NameFault) → Reads before (Has (IsTest (IsEither e d))) r → ((seen : Arities) → Grows before seen → Reads seen (Is (IsBoth e b)) (read_both (env e) b seen))
      → Reads before (Has (IsTest (IsEither e (either_more d b)))) (after r (more or_test (both_as_test (env e) b)))
  or-read d b before r hr hb =
      more-reads (IsTest (IsEither e d)) (IsTest (IsBoth e b)) (IsTest (IsEither e (either_more d b))) or_test before r (both_as_test (env e) b)
      (IsTest-more (IsEither e d)) (λ seen x y k l. ((k.0, l.0), λ w few g. or (k.1 w few g) (l.1 w few g))) hr
      (λ seen g. operand-reads (Is (IsBoth e b)) seen (both_is_predicate (env e) b) (both_fault (words e) b) (read_both (env e) b seen) (hb seen g))

  and-read : (b : BothTree) (s : SingleTree) (before : Arities) (r : Result (Option CoreTest × Arities) NameFault) → Reads before (Has (IsTest (IsBoth e b))) r → ((seen : Arities) → Grows before seen → Reads seen (Is (IsSingle e s)) (read_single (env e) s seen))
      → Reads before (Has (IsTest (IsBoth e (both_more b s)))) (after r (more and_test (single_as_test (env e) s)))
  and-read b s before r hr hs =
      more-reads (IsTest (IsBoth e b)) (IsTest (IsSingle e s)) (IsTest (IsBoth e (both_more b s))) and_test before r (single_as_test (env e) s)
      (IsTest-more (IsBoth e b)) (λ seen x y k l. ((k.0, l.0), λ w few g. and (k.1 w few g) (l.1 w few g))) hr
      (λ seen g. operand-reads (Is (IsSingle e s)) seen (is_predicate (env e) s) (single_fault (words e) s) (read_single (env e) s seen) (hs seen g))

  atom-reads : (before : Arities) → EnvFits W c v (env e) before → (y : Value) → IfOk (array_atom (words e) y) (λ a. AtomFits c a × HasAtoms e y (a ∷ []))
  atom-reads before h y = IfOk-both (AtomFits c) (λ a. HasAtoms e y (a ∷ [])) (array_atom (words e) y) (array_atom-fits c v (words e) y h.names) (array_atom-atoms e y)

  later : (before seen : Arities) → EnvFits W c v (env e) before → Grows before seen → EnvFits W c v (env e) seen
  later = EnvFits-grows W c v (env e)

  mutual
    sequences-read : (t : PolicyTree) → (W → PolicyPlaced t) → (before : Arities) → EnvFits W c v (env e) before → Reads before (PolicyHas t) (read_sequences (env e) t before)
    sequences-read (policy_begin at) w before h = (Grows-same before, tt)
    sequences-read (policy_more (policy_begin at) s) w before h =
        first-reads (Is (IsSequence e s)) (Is (IsPolicy e (policy_more (policy_begin at) s))) par before (λ seen. after (read_choices (env e) s seen) whole) (λ seen p k. (k.0, λ q few g. sequence (k.1 q few g)))
        (whole_sequence s (λ q. (w q).1.1) before (choices-read s (λ q. (w q).1.0) before h))
    sequences-read (policy_more (policy_more t r) s) w before h =
        more-reads (Is (IsPolicy e (policy_more t r))) (Is (IsSequence e s)) (Is (IsPolicy e (policy_more (policy_more t r) s))) par before (read_sequences (env e) (policy_more t r) before) (λ seen. after (read_choices (env e) s seen) whole)
        (Is-more (IsPolicy e (policy_more t r))) (λ seen x y k l. ((k.0, l.0), λ q few g. plus (k.1 q few g) (l.1 q few g))) (sequences-read (policy_more t r) (λ q. (w q).0) before h)
        (λ seen g. whole_sequence s (λ q. (w q).1.1) seen (choices-read s (λ q. (w q).1.0) seen (later before seen h g)))

    choices-read : (t : SequenceTree) → (W → SequencePlaced t) → (before : Arities) → EnvFits W c v (env e) before → Reads before (SequenceHas t) (read_choices (env e) t before)
    choices-read (sequence_begin at) w before h = (Grows-same before, tt)
    choices-read (sequence_more (sequence_begin at) d) w before h =
        first-reads (Is (IsChoice e d)) (Is (IsSequence e (sequence_more (sequence_begin at) d))) seq before (read_choice (env e) d) (λ seen p k. (k.0, λ q few g. choose (k.1 q few g))) (choice-read d (λ q. (w q).1) before h)
    choices-read (sequence_more (sequence_more s b) d) w before h =
        more-reads (Is (IsSequence e (sequence_more s b))) (Is (IsChoice e d)) (Is (IsSequence e (sequence_more (sequence_more s b) d))) seq before (read_choices (env e) (sequence_more s b) before) (read_choice (env e) d)
        (Is-more (IsSequence e (sequence_more s b))) (λ seen x y k l. ((k.0, l.0), λ q few g. semicolon (k.1 q few g) (l.1 q few g))) (choices-read (sequence_more s b) (λ q. (w q).0) before h)
        (λ seen g. choice-read d (λ q. (w q).1) seen (later before seen h g))

    choice-read : (t : ChoiceTree) → (W → ChoicePlaced t) → (before : Arities) → EnvFits W c v (env e) before → Reads before (Is (IsChoice e t)) (read_choice (env e) t before)
    choice-read (plain_tree d) w before h =
        Reads-weaker (Is (IsEither e d)) (Is (IsChoice e (plain_tree d))) before (read_either (env e) d before) (λ seen p k. (k.0, λ q few g. no_choice (k.1 q few g))) (either-read d (λ q. (w q).0) (λ q. (w q).1) before h)
    choice-read (if_tree at test met unmet) w before h =
        choice-reads at test met unmet before (either_as_test (env e) test before) (λ seen. after (read_sequences (env e) met seen) whole) (read_choice (env e) unmet)
        (operand-reads (Is (IsEither e test)) before (either_is_predicate (env e) test) (either_fault (words e) test) (read_either (env e) test before) (either-read test (λ q. (w q).0.0) (λ q. (w q).0.1) before h))
        (λ seen g. whole_policy met (λ q. (w q).1.1) seen (sequences-read met (λ q. (w q).1.0) seen (later before seen h g)))
        (λ seen g. choice-read unmet (λ q. (w q).2) seen (later before seen h g))

    either-read : (t : EitherTree) → (W → EitherPlaced t) → (W → HasBoth t) → (before : Arities) → EnvFits W c v (env e) before → Reads before (Is (IsEither e t)) (read_either (env e) t before)
    either-read (either_begin at) w some before h = (Grows-same before, (tt, λ q few g. absurd (some q)))
    either-read (either_more (either_begin at) b) w some before h =
        Reads-weaker (Is (IsBoth e b)) (Is (IsEither e (either_more (either_begin at) b))) before (read_both (env e) b before) (λ seen p k. (k.0, λ q few g. both (k.1 q few g))) (both-read b (λ q. (w q).1.0) (λ q. (w q).1.1) before h)
    either-read (either_more (either_more d a) b) w some before h =
        whole-reads filter (Is (IsEither e (either_more (either_more d a) b))) before _ (or-read (either_more d a) b before (read_boths (env e) (either_more d a) before) (boths-read (either_more d a) (λ q. (w q).0) before h)
        (λ seen g. both-read b (λ q. (w q).1.0) (λ q. (w q).1.1) seen (later before seen h g)))

    boths-read : (t : EitherTree) → (W → EitherPlaced t) → (before : Arities) → EnvFits W c v (env e) before → Reads before (EitherHas t) (read_boths (env e) t before)
    boths-read (either_begin at) w before h = (Grows-same before, tt)
    boths-read (either_more (either_begin at) b) w before h =
        first-reads (IsTest (IsBoth e b)) (IsTest (IsEither e (either_more (either_begin at) b))) or_test before (both_as_test (env e) b) (λ seen x k. (k.0, λ q few g. both (k.1 q few g)))
        (operand-reads (Is (IsBoth e b)) before (both_is_predicate (env e) b) (both_fault (words e) b) (read_both (env e) b before) (both-read b (λ q. (w q).1.0) (λ q. (w q).1.1) before h))
    boths-read (either_more (either_more d a) b) w before h =
        or-read (either_more d a) b before (read_boths (env e) (either_more d a) before) (boths-read (either_more d a) (λ q. (w q).0) before h) (λ seen g. both-read b (λ q. (w q).1.0) (λ q. (w q).1.1) seen (later before seen h g))

    both-read : (t : BothTree) → (W → BothPlaced t) → (W → HasSingle t) → (before : Arities) → EnvFits W c v (env e) before → Reads before (Is (IsBoth e t)) (read_both (env e) t before)
    both-read (both_begin at) w some before h = (Grows-same before, (tt, λ q few g. absurd (some q)))
    both-read (both_more (both_begin at) s) w some before h =
        Reads-weaker (Is (IsSingle e s)) (Is (IsBoth e (both_more (both_begin at) s))) before (read_single (env e) s before) (λ seen p k. (k.0, λ q few g. single (k.1 q few g))) (single-read s (λ q. (w q).1) before h)
    both-read (both_more (both_more b a) s) w some before h =
        whole-reads filter (Is (IsBoth e (both_more (both_more b a) s))) before _ (and-read (both_more b a) s before (read_singles (env e) (both_more b a) before) (singles-read (both_more b a) (λ q. (w q).0) before h)
        (λ seen g. single-read s (λ q. (w q).1) seen (later before seen h g)))

    singles-read : (t : BothTree) → (W → BothPlaced t) → (before : Arities) → EnvFits W c v (env e) before → Reads before (BothHas t) (read_singles (env e) t before)
    singles-read (both_begin at) w before h = (Grows-same before, tt)
    singles-read (both_more (both_begin at) s) w before h =
        first-reads (IsTest (IsSingle e s)) (IsTest (IsBoth e (both_more (both_begin at) s))) and_test before (single_as_test (env e) s) (λ seen x k. (k.0, λ q few g. single (k.1 q few g)))
        (operand-reads (Is (IsSingle e s)) before (is_predicate (env e) s) (single_fault (words e) s) (read_single (env e) s before) (single-read s (λ q. (w q).1) before h))
    singles-read (both_more (both_more b a) s) w before h =
        and-read (both_more b a) s before (read_singles (env e) (both_more b a) before) (singles-read (both_more b a) (λ q. (w q).0) before h) (λ seen g. single-read s (λ q. (w q).1) seen (later before seen h g))

    single-read : (t : SingleTree) → (W → SinglePlaced t) → (before : Arities) → EnvFits W c v (env e) before → Reads before (Is (IsSingle e t)) (read_single (env e) t before)
    single-read (not_tree at s) w before h =
        Reads-then (IsTest (IsSingle e s)) (Is (IsSingle e (not_tree at s))) before (λ x. filter (not_test x)) (single_as_test (env e) s before) (λ seen x k. (k.0, λ q few g. negation (k.1 q few g)))
        (operand-reads (Is (IsSingle e s)) before (is_predicate (env e) s) (single_fault (words e) s) (read_single (env e) s before) (single-read s w before h))
    single-read (id_tree at) w before h = (Grows-same before, (tt, λ q few g. identity))
    single-read (drop_tree at) w before h = (Grows-same before, (tt, λ q few g. drop))
    single-read (group_tree at p) w before h =
        Reads-weaker (Is (IsPolicy e p)) (Is (IsSingle e (group_tree at p))) before (read_policy (env e) p before) (λ seen x k. (k.0, λ q few g. group (k.1 q few g))) (whole_policy p (λ q. (w q).1) before (sequences-read p (λ q. (w q).0) before h))
    single-read (atomic_tree at p) w before h =
        Reads-then (Is (IsPolicy e p)) (Is (IsSingle e (atomic_tree at p))) before atomic (read_policy (env e) p before) (λ seen x k. (k.0, λ q few g. undivided (k.1 q few g))) (whole_policy p (λ q. (w q).1) before (sequences-read p (λ q. (w q).0) before h))
    single-read (name_tree t) w before h =
        Reads-plain (λ p. PolicyFits W c v before p × IsSingle e (name_tree t) p) (Is (IsSingle e (name_tree t))) before (λ p. p) (named (env e) t) (λ p k. (k.0, λ q few g. k.1)) (named-reads t before h)
    single-read (test_tree t y) w before h =
        Reads-plain (λ x. TestFits W c v before x × IsSingle e (test_tree t y) (filter x)) (Is (IsSingle e (test_tree t y))) before filter (field_equals (words e) t y) (λ x k. (k.0, λ q few g. k.1))
        (IfOk-both (TestFits W c v before) (λ x. IsSingle e (test_tree t y) (filter x)) (field_equals (words e) t y) (field_equals-fits W c v before (words e) t y h.names) (field_equals-is e t y))
    single-read (set_tree t y) w before h =
        Reads-plain (λ p. PolicyFits W c v before p × IsSingle e (set_tree t y) p) (Is (IsSingle e (set_tree t y))) before (λ p. p) (field_gets (words e) t y) (λ p k. (k.0, λ q few g. k.1))
        (IfOk-both (PolicyFits W c v before) (IsSingle e (set_tree t y)) (field_gets (words e) t y) (field_gets-fits W c v before (words e) t y h.names) (field_gets-is e t y))
    single-read (bare_tree t ys) w before h =
        tested-reads (bare_tree t ys) before t ys (λ a. a ≡ Num 1) (Ok (Num 1)) h w (tt, refl) (λ var index a k same. subst (λ b. IsSingle e (bare_tree t ys) (filter (state_test var index b))) (sym same) (is_one k))
    single-read (array_test_tree t ys y) w before h = tested-reads (array_test_tree t ys y) before t ys (λ a. HasAtoms e y (a ∷ [])) (array_atom (words e) y) h w (atom-reads before h y) (λ var index a k l. test_array k l)
    single-read (array_set_tree t ys y) w before h =
        changed-reads (array_set_tree t ys y) before t ys (Makes (λ a. AtomFits c a × HasAtoms e y (a ∷ [])) Put) (after (array_atom (words e) y) (λ a. Ok (Put a))) h w
        (makes c (λ a. AtomFits c a × HasAtoms e y (a ∷ [])) Put (array_atom (words e) y) (λ a k. k.0) (atom-reads before h y)) (λ o p m k. put m.1.1 (subst (λ o'. Changes e t ys o' p) m.2 k))
    single-read (up_tree t ys) w before h = changed-reads (up_tree t ys) before t ys (λ o. o ≡ Add 1) (Ok (Add 1)) h w (tt, refl) (λ o p m k. up (subst (λ o'. Changes e t ys o' p) m k))
    single-read (down_tree t ys) w before h = changed-reads (down_tree t ys) before t ys (λ o. o ≡ Add (2 ^ 64 - 1)) (Ok (Add (2 ^ 64 - 1))) h w (tt, refl) (λ o p m k. down (subst (λ o'. Changes e t ys o' p) m k))
    single-read (array_add_tree t ys y) w before h =
        changed-reads (array_add_tree t ys y) before t ys (Makes (λ n. HasAtoms e y (Num n ∷ [])) (λ n. Add n)) (after (constant (words e) y) (λ n. Ok (Add n))) h w
        (makes c (λ n. HasAtoms e y (Num n ∷ [])) (λ n. Add n) (constant (words e) y) (λ n k. tt) (constant-atoms e y)) (λ o p m k. add m.1 (subst (λ o'. Changes e t ys o' p) m.2 k))
    single-read (array_sub_tree t ys y) w before h =
        changed-reads (array_sub_tree t ys y) before t ys (Makes (λ n. HasAtoms e y (Num n ∷ [])) (λ n. Add ((2 ^ 64 - n) % 2 ^ 64))) (subtraction (words e) y) h w
        (makes c (λ n. HasAtoms e y (Num n ∷ [])) (λ n. Add ((2 ^ 64 - n) % 2 ^ 64)) (constant (words e) y) (λ n k. tt) (constant-atoms e y)) (λ o p m k. sub m.1 (subst (λ o'. Changes e t ys o' p) m.2 k))

  pub policy-reads : (t : PolicyTree) → (W → PolicyPlaced t × HasSequence t) → (before : Arities) → EnvFits W c v (env e) before → Reads before (Is (IsPolicy e t)) (read_policy (env e) t before)
  policy-reads t w before h = whole_policy t (λ q. (w q).1) before (sequences-read t (λ q. (w q).0) before h)
