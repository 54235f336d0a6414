-- The tree of each node.
use Rattle.std.proofs.Common.{◌≡◌, ℕ, List, [], ◌∷◌, ◌++◌, refl, sym, ap, ◌∙◌, map, Box, Global, Vec}
use Rattle.std.proofs.lemmas.List.{map_push}
use Rattle.snap_parse.specs.Tree.{Single, Choice, Policy, Sequence, Either, Both, Span, Value, PolicyTree, SequenceTree, ChoiceTree, EitherTree, BothTree, SingleTree, not_tree, id_tree, drop_tree, group_tree, atomic_tree, name_tree, test_tree, set_tree, bare_tree, array_test_tree, array_set_tree, up_tree, down_tree, array_add_tree, array_sub_tree, if_tree, plain_tree, policy_tree, sequence_tree, choice_tree, either_tree, both_tree, single_tree, policy_append, policy_begin, policy_more, sequence_append, sequence_begin, sequence_more, either_append, either_begin, either_more, both_append, both_begin, both_more, choice_node, single_node, both_node, either_node, policy_node, sequence_node}
use Rattle.snap_parse.specs.declared.tree.Single.{fold-roll-Single}
use Rattle.snap_parse.specs.declared.tree.Choice.{fold-roll-Choice}
use Rattle.snap_parse.specs.declared.tree.Policy.{Policy-F, roll-Policy, fold-roll-Policy}
use Rattle.snap_parse.specs.declared.tree.Sequence.{fold_out-Sequence}
use Rattle.snap_parse.specs.declared.tree.Either.{Either-F, roll-Either, fold-roll-Either}
use Rattle.snap_parse.specs.declared.tree.Both.{fold_out-Both}
use Rattle.snap_parse.specs.declared.tree.Single.TheVariants as singles
use Rattle.snap_parse.specs.declared.tree.Choice.TheVariants as choices
use Rattle.snap_parse.specs.declared.tree.Choice.TheOpen as layers

pub single_tree-Not : (at : ℕ) (part : Box Single Global) → single_tree (singles.Not at part) ≡ not_tree at (single_tree part.value)
unfolding single_tree
single_tree-Not at part = ap single_tree (sym (singles.rolls-Not at part)) ∙ fold-roll-Single ChoiceTree SingleTree BothTree EitherTree PolicyTree SequenceTree choice_node single_node both_node either_node policy_node sequence_node (layers.Not at part)

pub single_tree-Id : (at : ℕ) → single_tree (singles.Id at) ≡ id_tree at
unfolding single_tree
single_tree-Id at = ap single_tree (sym (singles.rolls-Id at)) ∙ fold-roll-Single ChoiceTree SingleTree BothTree EitherTree PolicyTree SequenceTree choice_node single_node both_node either_node policy_node sequence_node (layers.Id at)

pub single_tree-Drop : (at : ℕ) → single_tree (singles.Drop at) ≡ drop_tree at
unfolding single_tree
single_tree-Drop at = ap single_tree (sym (singles.rolls-Drop at)) ∙ fold-roll-Single ChoiceTree SingleTree BothTree EitherTree PolicyTree SequenceTree choice_node single_node both_node either_node policy_node sequence_node (layers.Drop at)

pub single_tree-Group : (at : ℕ) (body : Box Policy Global) → single_tree (singles.Group at body) ≡ group_tree at (policy_tree body.value)
unfolding single_tree policy_tree
single_tree-Group at body = ap single_tree (sym (singles.rolls-Group at body)) ∙ fold-roll-Single ChoiceTree SingleTree BothTree EitherTree PolicyTree SequenceTree choice_node single_node both_node either_node policy_node sequence_node (layers.Group at body)

pub single_tree-Atomic : (at : ℕ) (body : Box Policy Global) → single_tree (singles.Atomic at body) ≡ atomic_tree at (policy_tree body.value)
unfolding single_tree policy_tree
single_tree-Atomic at body = ap single_tree (sym (singles.rolls-Atomic at body)) ∙ fold-roll-Single ChoiceTree SingleTree BothTree EitherTree PolicyTree SequenceTree choice_node single_node both_node either_node policy_node sequence_node (layers.Atomic at body)

pub single_tree-Name : (name : Span) → single_tree (singles.Name name) ≡ name_tree name
unfolding single_tree
single_tree-Name name = ap single_tree (sym (singles.rolls-Name name)) ∙ fold-roll-Single ChoiceTree SingleTree BothTree EitherTree PolicyTree SequenceTree choice_node single_node both_node either_node policy_node sequence_node (layers.Name name)

pub single_tree-Test : (name : Span) (value : Value) → single_tree (singles.Test name value) ≡ test_tree name value
unfolding single_tree
single_tree-Test name value = ap single_tree (sym (singles.rolls-Test name value)) ∙ fold-roll-Single ChoiceTree SingleTree BothTree EitherTree PolicyTree SequenceTree choice_node single_node both_node either_node policy_node sequence_node (layers.Test name value)

pub single_tree-Set : (name : Span) (value : Value) → single_tree (singles.Set name value) ≡ set_tree name value
unfolding single_tree
single_tree-Set name value = ap single_tree (sym (singles.rolls-Set name value)) ∙ fold-roll-Single ChoiceTree SingleTree BothTree EitherTree PolicyTree SequenceTree choice_node single_node both_node either_node policy_node sequence_node (layers.Set name value)

pub single_tree-Bare : (name : Span) (places : Vec Value Global) → single_tree (singles.Bare name places) ≡ bare_tree name places.items
unfolding single_tree
single_tree-Bare name places = ap single_tree (sym (singles.rolls-Bare name places)) ∙ fold-roll-Single ChoiceTree SingleTree BothTree EitherTree PolicyTree SequenceTree choice_node single_node both_node either_node policy_node sequence_node (layers.Bare name places)

pub single_tree-Up : (name : Span) (places : Vec Value Global) → single_tree (singles.Up name places) ≡ up_tree name places.items
unfolding single_tree
single_tree-Up name places = ap single_tree (sym (singles.rolls-Up name places)) ∙ fold-roll-Single ChoiceTree SingleTree BothTree EitherTree PolicyTree SequenceTree choice_node single_node both_node either_node policy_node sequence_node (layers.Up name places)

pub single_tree-Down : (name : Span) (places : Vec Value Global) → single_tree (singles.Down name places) ≡ down_tree name places.items
unfolding single_tree
single_tree-Down name places = ap single_tree (sym (singles.rolls-Down name places)) ∙ fold-roll-Single ChoiceTree SingleTree BothTree EitherTree PolicyTree SequenceTree choice_node single_node both_node either_node policy_node sequence_node (layers.Down name places)

pub single_tree-ArrayTest : (name : Span) (places : Vec Value Global) (value : Value) → single_tree (singles.ArrayTest name places value) ≡ array_test_tree name places.items value
unfolding single_tree
single_tree-ArrayTest name places value = ap single_tree (sym (singles.rolls-ArrayTest name places value)) ∙ fold-roll-Single ChoiceTree SingleTree BothTree EitherTree PolicyTree SequenceTree choice_node single_node both_node either_node policy_node sequence_node (layers.ArrayTest name places value)

pub single_tree-ArraySet : (name : Span) (places : Vec Value Global) (value : Value) → single_tree (singles.ArraySet name places value) ≡ array_set_tree name places.items value
unfolding single_tree
single_tree-ArraySet name places value = ap single_tree (sym (singles.rolls-ArraySet name places value)) ∙ fold-roll-Single ChoiceTree SingleTree BothTree EitherTree PolicyTree SequenceTree choice_node single_node both_node either_node policy_node sequence_node (layers.ArraySet name places value)

pub single_tree-ArrayAdd : (name : Span) (places : Vec Value Global) (value : Value) → single_tree (singles.ArrayAdd name places value) ≡ array_add_tree name places.items value
unfolding single_tree
single_tree-ArrayAdd name places value = ap single_tree (sym (singles.rolls-ArrayAdd name places value)) ∙ fold-roll-Single ChoiceTree SingleTree BothTree EitherTree PolicyTree SequenceTree choice_node single_node both_node either_node policy_node sequence_node (layers.ArrayAdd name places value)

pub single_tree-ArraySub : (name : Span) (places : Vec Value Global) (value : Value) → single_tree (singles.ArraySub name places value) ≡ array_sub_tree name places.items value
unfolding single_tree
single_tree-ArraySub name places value = ap single_tree (sym (singles.rolls-ArraySub name places value)) ∙ fold-roll-Single ChoiceTree SingleTree BothTree EitherTree PolicyTree SequenceTree choice_node single_node both_node either_node policy_node sequence_node (layers.ArraySub name places value)

pub choice_tree-Plain : (either : Either) → choice_tree (choices.Plain either) ≡ plain_tree (either_tree either)
unfolding choice_tree either_tree
choice_tree-Plain either = ap choice_tree (sym (choices.rolls-Plain either)) ∙ fold-roll-Choice ChoiceTree SingleTree BothTree EitherTree PolicyTree SequenceTree choice_node single_node both_node either_node policy_node sequence_node (layers.Plain either)

pub choice_tree-If : (at : ℕ) (test : Either) (met : Box Policy Global) (unmet : Box Choice Global) →
    choice_tree (choices.If at test met unmet) ≡ if_tree at (either_tree test) (policy_tree met.value) (choice_tree unmet.value)
unfolding choice_tree either_tree policy_tree
choice_tree-If at test met unmet = ap choice_tree (sym (choices.rolls-If at test met unmet)) ∙ fold-roll-Choice ChoiceTree SingleTree BothTree EitherTree PolicyTree SequenceTree choice_node single_node both_node either_node policy_node sequence_node (layers.If at test met unmet)

pub policy_tree-roll : (x : Policy-F Choice Single Both Either Policy Sequence) → policy_tree (roll-Policy x) ≡ policy_append (policy_begin x.at) (map sequence_tree x.parts.items)
unfolding policy_tree sequence_tree
policy_tree-roll x = fold-roll-Policy ChoiceTree SingleTree BothTree EitherTree PolicyTree SequenceTree choice_node single_node both_node either_node policy_node sequence_node x

policy_append-push : (p : PolicyTree) (xs : List SequenceTree) (x : SequenceTree) → policy_append p (xs ++ (x ∷ [])) ≡ policy_more (policy_append p xs) x
policy_append-push p [] x = refl
policy_append-push p (y ∷ xs) x = policy_append-push (policy_more p y) xs x

-- one more operand
pub policy_next : (at : ℕ) (items before : List Sequence) (part : Sequence) → items ≡ before ++ (part ∷ []) →
    policy_more (policy_append (policy_begin at) (map sequence_tree before)) (sequence_tree part) ≡ policy_append (policy_begin at) (map sequence_tree items)
policy_next at items before part is =
    sym (policy_append-push (policy_begin at) (map sequence_tree before) (sequence_tree part))
    ∙ ap (policy_append (policy_begin at)) (sym (ap (map sequence_tree) is ∙ map_push sequence_tree before part))

pub sequence_tree-out : (x : Sequence) → sequence_tree x ≡ sequence_append (sequence_begin x.at) (map choice_tree x.parts.items)
unfolding sequence_tree choice_tree
sequence_tree-out x = fold_out-Sequence ChoiceTree SingleTree BothTree EitherTree PolicyTree SequenceTree choice_node single_node both_node either_node policy_node sequence_node x

sequence_append-push : (p : SequenceTree) (xs : List ChoiceTree) (x : ChoiceTree) → sequence_append p (xs ++ (x ∷ [])) ≡ sequence_more (sequence_append p xs) x
sequence_append-push p [] x = refl
sequence_append-push p (y ∷ xs) x = sequence_append-push (sequence_more p y) xs x

-- one more operand
pub sequence_next : (at : ℕ) (items before : List Choice) (part : Choice) → items ≡ before ++ (part ∷ []) →
    sequence_more (sequence_append (sequence_begin at) (map choice_tree before)) (choice_tree part) ≡ sequence_append (sequence_begin at) (map choice_tree items)
sequence_next at items before part is =
    sym (sequence_append-push (sequence_begin at) (map choice_tree before) (choice_tree part))
    ∙ ap (sequence_append (sequence_begin at)) (sym (ap (map choice_tree) is ∙ map_push choice_tree before part))

pub either_tree-roll : (x : Either-F Choice Single Both Either Policy Sequence) → either_tree (roll-Either x) ≡ either_append (either_begin x.at) (map both_tree x.parts.items)
unfolding either_tree both_tree
either_tree-roll x = fold-roll-Either ChoiceTree SingleTree BothTree EitherTree PolicyTree SequenceTree choice_node single_node both_node either_node policy_node sequence_node x

either_append-push : (p : EitherTree) (xs : List BothTree) (x : BothTree) → either_append p (xs ++ (x ∷ [])) ≡ either_more (either_append p xs) x
either_append-push p [] x = refl
either_append-push p (y ∷ xs) x = either_append-push (either_more p y) xs x

-- one more operand
pub either_next : (at : ℕ) (items before : List Both) (part : Both) → items ≡ before ++ (part ∷ []) →
    either_more (either_append (either_begin at) (map both_tree before)) (both_tree part) ≡ either_append (either_begin at) (map both_tree items)
either_next at items before part is =
    sym (either_append-push (either_begin at) (map both_tree before) (both_tree part))
    ∙ ap (either_append (either_begin at)) (sym (ap (map both_tree) is ∙ map_push both_tree before part))

pub both_tree-out : (x : Both) → both_tree x ≡ both_append (both_begin x.at) (map single_tree x.parts.items)
unfolding both_tree single_tree
both_tree-out x = fold_out-Both ChoiceTree SingleTree BothTree EitherTree PolicyTree SequenceTree choice_node single_node both_node either_node policy_node sequence_node x

both_append-push : (p : BothTree) (xs : List SingleTree) (x : SingleTree) → both_append p (xs ++ (x ∷ [])) ≡ both_more (both_append p xs) x
both_append-push p [] x = refl
both_append-push p (y ∷ xs) x = both_append-push (both_more p y) xs x

-- one more operand
pub both_next : (at : ℕ) (items before : List Single) (part : Single) → items ≡ before ++ (part ∷ []) →
    both_more (both_append (both_begin at) (map single_tree before)) (single_tree part) ≡ both_append (both_begin at) (map single_tree items)
both_next at items before part is =
    sym (both_append-push (both_begin at) (map single_tree before) (single_tree part))
    ∙ ap (both_append (both_begin at)) (sym (ap (map single_tree) is ∙ map_push single_tree before part))
