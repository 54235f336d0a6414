-- The trees of policies and of operands joined by `|`, from their parts.
use Rattle.std.proofs.Common.{◌≡◌, map}
use Rattle.snap_parse.specs.Tree.{PolicyTree, SequenceTree, ChoiceTree, EitherTree, BothTree, SingleTree, policy_tree, sequence_tree, either_tree, both_tree, policy_append, policy_begin, either_append, either_begin, choice_node, single_node, both_node, either_node, policy_node, sequence_node}
use Rattle.snap_parse.specs.declared.tree.Policy.{Policy, out-Policy, fold_out-Policy}
use Rattle.snap_parse.specs.declared.tree.Either.{Either, out-Either, fold_out-Either}

pub policy_tree-out : (x : Policy) → policy_tree x ≡ policy_append (policy_begin (out-Policy x).at) (map sequence_tree (out-Policy x).parts.items)
unfolding policy_tree sequence_tree
policy_tree-out x = fold_out-Policy ChoiceTree SingleTree BothTree EitherTree PolicyTree SequenceTree choice_node single_node both_node either_node policy_node sequence_node x

pub either_tree-out : (x : Either) → either_tree x ≡ either_append (either_begin (out-Either x).at) (map both_tree (out-Either x).parts.items)
unfolding either_tree both_tree
either_tree-out x = fold_out-Either ChoiceTree SingleTree BothTree EitherTree PolicyTree SequenceTree choice_node single_node both_node either_node policy_node sequence_node x
