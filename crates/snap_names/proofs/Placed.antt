-- Which trees are as those of texts: a name is a name, each repeated part has an operand, and no list of places is empty.
use Rattle.std.proofs.Common.{ℕ, List, ◌≤◌, length}
use Rattle.std.specs.List.{AllByRecursion}
use Rattle.snap_core.specs.Names.{IsName}
use Rattle.snap_names.specs.Senses.{word}
use Rattle.snap_parse.specs.Tree.{SourceTree, DeclTree, field_tree, array_tree, const_tree, let_tree, PolicyTree, policy_begin, policy_more, SequenceTree, sequence_begin, sequence_more, ChoiceTree, if_tree, plain_tree, EitherTree, either_begin, either_more, BothTree, both_begin, both_more, SingleTree, not_tree, group_tree, atomic_tree, bare_tree, array_test_tree, array_set_tree, up_tree, down_tree, array_add_tree, array_sub_tree}

-- there is an operand
abbrev pub HasSequence : PolicyTree → Type 0
HasSequence (policy_begin at) = ⊥
HasSequence (policy_more p s) = Unit {0}

abbrev pub HasChoice : SequenceTree → Type 0
HasChoice (sequence_begin at) = ⊥
HasChoice (sequence_more s c) = Unit {0}

abbrev pub HasBoth : EitherTree → Type 0
HasBoth (either_begin at) = ⊥
HasBoth (either_more d b) = Unit {0}

abbrev pub HasSingle : BothTree → Type 0
HasSingle (both_begin at) = ⊥
HasSingle (both_more b s) = Unit {0}

-- all parts within have operands and places
abbrev mutual
  pub PolicyPlaced : PolicyTree → Type 0
  PolicyPlaced (policy_begin at) = Unit {0}
  PolicyPlaced (policy_more p s) = PolicyPlaced p × (SequencePlaced s × HasChoice s)

  pub SequencePlaced : SequenceTree → Type 0
  SequencePlaced (sequence_begin at) = Unit {0}
  SequencePlaced (sequence_more s c) = SequencePlaced s × ChoicePlaced c

  pub ChoicePlaced : ChoiceTree → Type 0
  ChoicePlaced (plain_tree d) = EitherPlaced d × HasBoth d
  ChoicePlaced (if_tree at test met unmet) = (EitherPlaced test × HasBoth test) × (PolicyPlaced met × HasSequence met) × ChoicePlaced unmet

  pub EitherPlaced : EitherTree → Type 0
  EitherPlaced (either_begin at) = Unit {0}
  EitherPlaced (either_more d b) = EitherPlaced d × (BothPlaced b × HasSingle b)

  pub BothPlaced : BothTree → Type 0
  BothPlaced (both_begin at) = Unit {0}
  BothPlaced (both_more b s) = BothPlaced b × SinglePlaced s

  pub SinglePlaced : SingleTree → Type 0
  SinglePlaced (not_tree at s) = SinglePlaced s
  SinglePlaced (group_tree at p) = PolicyPlaced p × HasSequence p
  SinglePlaced (atomic_tree at p) = PolicyPlaced p × HasSequence p
  SinglePlaced (bare_tree name ys) = 1 ≤ length ys
  SinglePlaced (array_test_tree name ys y) = 1 ≤ length ys
  SinglePlaced (array_set_tree name ys y) = 1 ≤ length ys
  SinglePlaced (up_tree name ys) = 1 ≤ length ys
  SinglePlaced (down_tree name ys) = 1 ≤ length ys
  SinglePlaced (array_add_tree name ys y) = 1 ≤ length ys
  SinglePlaced (array_sub_tree name ys y) = 1 ≤ length ys
  SinglePlaced s = Unit {0}

-- the declaration of a text
abbrev pub DeclWritten : List ℕ → DeclTree → Type 0
DeclWritten text (field_tree at name prefix) = IsName (word text name)
DeclWritten text (array_tree at name) = IsName (word text name)
DeclWritten text (const_tree at name value) = Unit {0}
DeclWritten text (let_tree at name body) = PolicyPlaced body × HasSequence body

abbrev pub SourceWritten : List ℕ → SourceTree → Type 0
SourceWritten text s = AllByRecursion (DeclWritten text) s.decls × (PolicyPlaced s.policy × HasSequence s.policy)
