-- The core form of each part of a tree, or its first broken naming rule.
use Rattle.std.specs.Prelude.{ℕ, ◌-◌, ◌%◌, ◌^◌, Bool, true, false, if◌then◌else◌, List, slice_get, Option, None, Some, Result, Ok, Err}
use Rattle.snap_core.specs.declared.policy.Atom.{Atom}
use Rattle.snap_core.specs.declared.policy.Atom.TheVariants.{Num}
use Rattle.snap_core.specs.declared.policy.Op.{Op}
use Rattle.snap_core.specs.declared.policy.Op.TheVariants.{Put, Add}
use Rattle.snap_parse.specs.declared.tree.Span.{Span}
use Rattle.snap_parse.specs.Tree.{PolicyTree, policy_begin, policy_more, SequenceTree, sequence_begin, sequence_more, ChoiceTree, if_tree, plain_tree, EitherTree, either_begin, either_more, BothTree, both_begin, both_more, SingleTree, not_tree, id_tree, drop_tree, group_tree, atomic_tree, name_tree, test_tree, set_tree, bare_tree, array_test_tree, array_set_tree, up_tree, down_tree, array_add_tree, array_sub_tree, single_at, both_at, either_at}
use Rattle.snap_names.specs.declared.scope.Sense.{Sense}
use Rattle.snap_names.specs.declared.scope.Sense.TheVariants.{Policy}
use Rattle.snap_names.specs.declared.fault.NameFault.{NameFault}
use Rattle.snap_names.specs.declared.fault.NameFault.TheVariants.{Kind}
use Rattle.snap_names.specs.Core.{CoreTest, CorePolicy, id_test, drop_test, state_test, not_test, and_test, or_test, filter, change, par, seq, choice, atomic, is_filter}
use Rattle.snap_names.specs.Senses.{Words, Value, Arities, Place, or_fault, after, sense_of, constant, array_atom, field_equals, field_gets, place}

-- what is known where a policy is read: the text with its names, and the bodies of `let`
pub record Env : Type 0 where
  pub words : Words
  pub lets : List CorePolicy

-- the body of a `let`
abbrev pub body_of : Env → ℕ → Sense → Result CorePolicy NameFault
body_of e at (Policy i) = or_fault (Kind at) (slice_get e.lets i)
body_of e at _ = Err (Kind at)

abbrev pub named : Env → Span → Result CorePolicy NameFault
named e name = after (sense_of e.words name) (body_of e name.from)

-- a lone name that isn't a `let` counts as a predicate: the name itself is the fault
abbrev pub is_filter_or_fault : Result CorePolicy NameFault → Bool
is_filter_or_fault (Ok p) = is_filter p
is_filter_or_fault (Err f) = true

-- Whether a tree is a predicate: `id`, `drop`, a test, a bare `s[e]`, a `!`, `&` or `|`, these in brackets, or a `let` whose body is one.
abbrev mutual
  pub is_predicate : Env → SingleTree → Bool
  is_predicate e (not_tree at s) = true
  is_predicate e (id_tree at) = true
  is_predicate e (drop_tree at) = true
  is_predicate e (group_tree at p) = policy_is_predicate e p
  is_predicate e (name_tree name) = is_filter_or_fault (named e name)
  is_predicate e (test_tree name v) = true
  is_predicate e (bare_tree name vs) = true
  is_predicate e (array_test_tree name vs v) = true
  is_predicate e _ = false

  pub both_is_predicate : Env → BothTree → Bool
  both_is_predicate e (both_begin at) = false
  both_is_predicate e (both_more (both_begin at) s) = is_predicate e s
  both_is_predicate e (both_more (both_more b s) t) = true

  pub either_is_predicate : Env → EitherTree → Bool
  either_is_predicate e (either_begin at) = false
  either_is_predicate e (either_more (either_begin at) b) = both_is_predicate e b
  either_is_predicate e (either_more (either_more d b) c) = true

  pub choice_is_predicate : Env → ChoiceTree → Bool
  choice_is_predicate e (if_tree at test met unmet) = false
  choice_is_predicate e (plain_tree d) = either_is_predicate e d

  pub sequence_is_predicate : Env → SequenceTree → Bool
  sequence_is_predicate e (sequence_more (sequence_begin at) c) = choice_is_predicate e c
  sequence_is_predicate e _ = false

  pub policy_is_predicate : Env → PolicyTree → Bool
  policy_is_predicate e (policy_more (policy_begin at) s) = sequence_is_predicate e s
  policy_is_predicate e _ = false

-- the fault at a name where no predicate begins
abbrev pub name_fault : Words → Span → NameFault
name_fault e name = elim (sense_of e name) [ Ok x ↦ Kind name.from | Err f ↦ f ]

-- the fault at the first token of a tree that isn't a predicate
abbrev pub single_fault : Words → SingleTree → NameFault
single_fault e (set_tree name v) = name_fault e name
single_fault e (array_set_tree name vs v) = name_fault e name
single_fault e (up_tree name vs) = name_fault e name
single_fault e (down_tree name vs) = name_fault e name
single_fault e (array_add_tree name vs v) = name_fault e name
single_fault e (array_sub_tree name vs v) = name_fault e name
single_fault e s = Kind (single_at s)

abbrev pub both_fault : Words → BothTree → NameFault
both_fault e (both_more (both_begin at) s) = single_fault e s
both_fault e b = Kind (both_at b)

abbrev pub either_fault : Words → EitherTree → NameFault
either_fault e (either_more (either_begin at) b) = both_fault e b
either_fault e d = Kind (either_at d)

-- A core policy, and the arities behind it. A repeated part without operands, which no text has, is `id`.
abbrev pub Reading : Type 0
Reading = Result (CorePolicy × Arities) NameFault

abbrev pub TestReading : Type 0
TestReading = Result (CoreTest × Arities) NameFault

-- the reading as a predicate
abbrev pub as_test : NameFault → CorePolicy × Arities → TestReading
as_test f (filter x, arities) = Ok (x, arities)
as_test f _ = Err f

-- an operand that must be a predicate: that it is one is asked first
abbrev pub operand : Bool → NameFault → Reading → TestReading
operand b f r = if b then after r (as_test f) else Err f

abbrev pub joined : {A : Type 0} → (A → A → A) → Option A → A → A
joined f None y = y
joined f (Some x) y = f x y

-- operands before, and one more
abbrev pub more : {A : Type 0} → (A → A → A) → (Arities → Result (A × Arities) NameFault)
    → Option A × Arities → Result (Option A × Arities) NameFault
more f read before = after (read before.1) (λ y. Ok (Some (joined f before.0 y.0), y.1))

-- all operands of a repeated part
abbrev pub whole_as : {A : Type 0} → (A → CorePolicy) → Option A × Arities → Reading
whole_as form (None, arities) = Ok (filter id_test, arities)
whole_as form (Some x, arities) = Ok (form x, arities)

abbrev pub whole : Option CorePolicy × Arities → Reading
whole = whole_as (λ p. p)

abbrev pub whole_test : Option CoreTest × Arities → Reading
whole_test = whole_as filter

-- the operation of `-=`
abbrev pub subtraction : Words → Value → Result Op NameFault
subtraction e v = after (constant e v) (λ n. Ok (Add ((2 ^ 64 - n) % 2 ^ 64)))

-- `name places` with an operation
abbrev pub changed : Result Op NameFault → Place → Reading
changed op p = after op (λ o. Ok (change (record { var = p.var; index = p.index; op = o }), p.arities))

abbrev pub tested : Result Atom NameFault → Place → Reading
tested value p = after value (λ a. Ok (filter (state_test p.var p.index a), p.arities))

abbrev mutual
  -- sequences joined by `+`
  pub read_sequences : Env → PolicyTree → Arities → Result (Option CorePolicy × Arities) NameFault
  read_sequences e (policy_begin at) before = Ok (None, before)
  read_sequences e (policy_more p s) before = after (read_sequences e p before)
      (more par (λ arities. after (read_choices e s arities) whole))

  -- choices joined by `;`
  pub read_choices : Env → SequenceTree → Arities → Result (Option CorePolicy × Arities) NameFault
  read_choices e (sequence_begin at) before = Ok (None, before)
  read_choices e (sequence_more s c) before = after (read_choices e s before) (more seq (read_choice e c))

  pub read_choice : Env → ChoiceTree → Arities → Reading
  read_choice e (plain_tree d) before = read_either e d before
  read_choice e (if_tree at test met unmet) before =
      after (operand (either_is_predicate e test) (either_fault e.words test) (read_either e test before)) (λ x.
      after (after (read_sequences e met x.1) whole) (λ p.
      after (read_choice e unmet p.1) (λ q. Ok (choice x.0 p.0 q.0, q.1))))

  -- one operand, or several predicates joined by `|`
  pub read_either : Env → EitherTree → Arities → Reading
  read_either e (either_begin at) before = Ok (filter id_test, before)
  read_either e (either_more (either_begin at) b) before = read_both e b before
  read_either e (either_more (either_more d c) b) before =
      after (after (after (read_boths e d before)
      (more or_test (λ arities. operand (both_is_predicate e c) (both_fault e.words c) (read_both e c arities))))
      (more or_test (λ arities. operand (both_is_predicate e b) (both_fault e.words b) (read_both e b arities)))) whole_test

  -- predicates joined by `|`
  pub read_boths : Env → EitherTree → Arities → Result (Option CoreTest × Arities) NameFault
  read_boths e (either_begin at) before = Ok (None, before)
  read_boths e (either_more d b) before =
      after (read_boths e d before)
      (more or_test (λ arities. operand (both_is_predicate e b) (both_fault e.words b) (read_both e b arities)))

  -- one operand, or several predicates joined by `&`
  pub read_both : Env → BothTree → Arities → Reading
  read_both e (both_begin at) before = Ok (filter id_test, before)
  read_both e (both_more (both_begin at) s) before = read_single e s before
  read_both e (both_more (both_more b t) s) before =
      after (after (after (read_singles e b before)
      (more and_test (λ arities. operand (is_predicate e t) (single_fault e.words t) (read_single e t arities))))
      (more and_test (λ arities. operand (is_predicate e s) (single_fault e.words s) (read_single e s arities)))) whole_test

  -- predicates joined by `&`
  pub read_singles : Env → BothTree → Arities → Result (Option CoreTest × Arities) NameFault
  read_singles e (both_begin at) before = Ok (None, before)
  read_singles e (both_more b s) before =
      after (read_singles e b before)
      (more and_test (λ arities. operand (is_predicate e s) (single_fault e.words s) (read_single e s arities)))

  pub read_single : Env → SingleTree → Arities → Reading
  read_single e (not_tree at s) before =
      after (operand (is_predicate e s) (single_fault e.words s) (read_single e s before)) (λ x. Ok (filter (not_test x.0), x.1))
  read_single e (id_tree at) before = Ok (filter id_test, before)
  read_single e (drop_tree at) before = Ok (filter drop_test, before)
  read_single e (group_tree at p) before = after (read_sequences e p before) whole
  read_single e (atomic_tree at p) before = after (after (read_sequences e p before) whole) (λ x. Ok (atomic x.0, x.1))
  read_single e (name_tree name) before = after (named e name) (λ p. Ok (p, before))
  read_single e (test_tree name v) before = after (field_equals e.words name v) (λ x. Ok (filter x, before))
  read_single e (set_tree name v) before = after (field_gets e.words name v) (λ p. Ok (p, before))
  read_single e (bare_tree name vs) before = after (place e.words before name vs) (tested (Ok (Num 1)))
  read_single e (array_test_tree name vs v) before = after (place e.words before name vs) (tested (array_atom e.words v))
  read_single e (array_set_tree name vs v) before = after
      (place e.words before name vs) (changed (after (array_atom e.words v) (λ a. Ok (Put a))))
  read_single e (up_tree name vs) before = after (place e.words before name vs) (changed (Ok (Add 1)))
  read_single e (down_tree name vs) before = after (place e.words before name vs) (changed (Ok (Add (2 ^ 64 - 1))))
  read_single e (array_add_tree name vs v) before = after
      (place e.words before name vs) (changed (after (constant e.words v) (λ n. Ok (Add n))))
  read_single e (array_sub_tree name vs v) before = after (place e.words before name vs) (changed (subtraction e.words v))

abbrev pub read_policy : Env → PolicyTree → Arities → Reading
read_policy e p before = after (read_sequences e p before) whole

abbrev pub read_sequence : Env → SequenceTree → Arities → Reading
read_sequence e s before = after (read_choices e s before) whole

-- each operand that must be a predicate
abbrev pub either_as_test : Env → EitherTree → Arities → TestReading
either_as_test e t before = operand (either_is_predicate e t) (either_fault e.words t) (read_either e t before)

abbrev pub both_as_test : Env → BothTree → Arities → TestReading
both_as_test e t before = operand (both_is_predicate e t) (both_fault e.words t) (read_both e t before)

abbrev pub single_as_test : Env → SingleTree → Arities → TestReading
single_as_test e t before = operand (is_predicate e t) (single_fault e.words t) (read_single e t before)
