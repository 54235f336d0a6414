use Rattle.std.proofs.Common.{rules, ◌∙◌, Ok, ap, sym, refl}
use Rattle.std.proofs.lemmas.List.{take_all}
use Rattle.snap_parse.specs.declared.tree.Policy.{out-Policy}
use Rattle.snap_parse.specs.declared.tree.Either.{out-Either}
use Rattle.snap_parse.specs.Tree.{policy_tree, sequence_tree, choice_tree, either_tree, both_tree, single_tree, if_tree, not_tree, group_tree, atomic_tree, bare_tree, array_test_tree, array_set_tree, up_tree, down_tree, array_add_tree, array_sub_tree}
use Rattle.snap_parse.proofs.Trees.{sequence_tree-out, both_tree-out, choice_tree-If, choice_tree-Plain, single_tree-Not, single_tree-Id, single_tree-Drop, single_tree-Group, single_tree-Atomic, single_tree-Name, single_tree-Test, single_tree-Set, single_tree-Bare, single_tree-Up, single_tree-Down, single_tree-ArrayTest, single_tree-ArraySet, single_tree-ArrayAdd, single_tree-ArraySub}
use Rattle.snap_names.specs.Core.{id_test, drop_test, filter, not_test, atomic}
use Rattle.snap_names.specs.Parts.{itself, env_in}
use Rattle.snap_names.specs.Senses.{after}
use Rattle.snap_names.specs.Reading.{read_policy, read_sequence, read_sequences, read_choices, read_choice, read_either, read_both, read_single, whole, whole_test, either_as_test}
use Rattle.snap_names.proofs.Nodes.{policy_tree-out, either_tree-out}
use Rattle.snap_names.proofs.Readings.{HaveRead-none, HasRead-choice, HasRead-round, HasRead-operand, HasRead-leaf, operand-no_test, after-refused}
use Rattle.snap_names.proofs.Parted.{Reads-err, Reads-same, read_either-several, read_both-several, choice-met_refused, choice-unmet_refused}
use Rattle.snap_names.proofs.Operands.{policies, sequences, eithers, boths, alone}
use Rattle.snap_names.proofs.Loops.{in_policy, in_sequence, in_either, in_both, step, refused}
use Rattle.snap_names.proofs.scope.Scope.+reader.Goals as goal

pub policy-loop-part-init : goal.policy-loop-part-init
policy-loop-part-init t c = λ lets are. HaveRead-none itself c.args.tally.now

pub policy-loop-part-preserved : goal.policy-loop-part-preserved
policy-loop-part-preserved t c = λ lets are.
    let items = (out-Policy c.args.tree.now).parts.items in
    step (policies (out-Policy c.args.tree.now).at) (in_policy (env_in c.args.self.now lets) (out-Policy c.args.tree.now).at) items c.loop-part.part-index c.part-item.result _ _ _ _ _ _ _ (search rules) (search rules) (c.loop-part.invariant lets are) (c.in_ok-next.ensures lets are)
    c.in_ok-joined.ensures.arities c.in_ok-joined.ensures.nodes c.in_ok-joined.ensures.part

pub policy-returns-in_err-next : goal.policy-returns-in_err-next
policy-returns-in_err-next t c =
    let items = (out-Policy c.args.tree.now).parts.items in
    Reads-err c.args.self.now (λ e arities. read_policy e (policy_tree c.args.tree.now) arities) c.args.tally.now c.sequence.new.tally c.from_residual.result c.in_err-next.field-0.0 (search rules)
    (λ ne lets are.
    let e = env_in c.args.self.now lets in
    ap (λ t. after (read_sequences e t c.args.tally.now.arities.items) whole) (policy_tree-out c.args.tree.now)
    ∙ ap (λ r. after r whole) (refused (policies (out-Policy c.args.tree.now).at) (in_policy e (out-Policy c.args.tree.now).at) items c.loop-part.part-index c.part-item.result c.args.tally.now c.loop-part.tally c.loop-part.parts _ (search rules) (search rules)
    (c.loop-part.invariant lets are) (c.in_err-next.ensures ne lets are)))

pub policy-returns : goal.policy-returns
policy-returns t c = λ lets are.
    let items = (out-Policy c.args.tree.now).parts.items in
    rw (policy_tree-out c.args.tree.now)
    (rw (take_all c.loop-part.part-index items (search rules)) at (c.whole.ensures.policies _ c.args.tally.now (c.loop-part.invariant lets are)))

pub sequence-loop-part-init : goal.sequence-loop-part-init
sequence-loop-part-init t c = λ lets are. HaveRead-none itself c.args.tally.now

pub sequence-loop-part-preserved : goal.sequence-loop-part-preserved
sequence-loop-part-preserved t c = λ lets are.
    let items = c.args.tree.now.parts.items in
    step (sequences c.args.tree.now.at) (in_sequence (env_in c.args.self.now lets) c.args.tree.now.at) items c.loop-part.part-index c.part-item.result _ _ _ _ _ _ _ (search rules) (search rules) (c.loop-part.invariant lets are) (c.in_ok-next.ensures lets are)
    c.in_ok-joined.ensures.arities c.in_ok-joined.ensures.nodes c.in_ok-joined.ensures.part

pub sequence-returns-in_err-next : goal.sequence-returns-in_err-next
sequence-returns-in_err-next t c =
    let items = c.args.tree.now.parts.items in
    Reads-err c.args.self.now (λ e arities. read_sequence e (sequence_tree c.args.tree.now) arities) c.args.tally.now c.choice.new.tally c.from_residual.result c.in_err-next.field-0.0 (search rules)
    (λ ne lets are.
    let e = env_in c.args.self.now lets in
    ap (λ t. after (read_choices e t c.args.tally.now.arities.items) whole) (sequence_tree-out c.args.tree.now)
    ∙ ap (λ r. after r whole) (refused (sequences c.args.tree.now.at) (in_sequence e c.args.tree.now.at) items c.loop-part.part-index c.part-item.result c.args.tally.now c.loop-part.tally c.loop-part.parts _ (search rules) (search rules)
    (c.loop-part.invariant lets are) (c.in_err-next.ensures ne lets are)))

pub sequence-returns : goal.sequence-returns
sequence-returns t c = λ lets are.
    let items = c.args.tree.now.parts.items in
    rw (sequence_tree-out c.args.tree.now)
    (rw (take_all c.loop-part.part-index items (search rules)) at (c.whole.ensures.policies _ c.args.tally.now (c.loop-part.invariant lets are)))

pub either-loop-part-init : goal.either-loop-part-init
either-loop-part-init t c = λ lets are. HaveRead-none filter c.args.tally.now

pub either-loop-part-preserved : goal.either-loop-part-preserved
either-loop-part-preserved t c = λ lets are.
    let items = (out-Either c.args.tree.now).parts.items in
    step (eithers (out-Either c.args.tree.now).at) (in_either (env_in c.args.self.now lets) (out-Either c.args.tree.now).at) items c.loop-part.part-index c.part-item.result _ _ _ _ _ _ _ (search rules) (search rules) (c.loop-part.invariant lets are) (c.in_ok-next.ensures lets are)
    c.in_ok-joined.ensures.arities c.in_ok-joined.ensures.nodes c.in_ok-joined.ensures.part

pub either-returns-in_err-next : goal.either-returns-in_err-next
either-returns-in_err-next t c =
    let items = (out-Either c.args.tree.now).parts.items in
    Reads-err c.args.self.now (λ e arities. read_either e (either_tree c.args.tree.now) arities) c.args.tally.now c.both_operand.new.tally c.from_residual.result c.in_err-next.field-0.0 (search rules)
    (λ ne lets are.
    let e = env_in c.args.self.now lets in
    ap (λ t. read_either e t c.args.tally.now.arities.items) (either_tree-out c.args.tree.now) ∙ read_either-several e (out-Either c.args.tree.now).at items c.args.tally.now.arities.items (search rules)
    ∙ ap (λ r. after r whole_test) (refused (eithers (out-Either c.args.tree.now).at) (in_either e (out-Either c.args.tree.now).at) items c.loop-part.part-index c.part-item.result c.args.tally.now c.loop-part.tally c.loop-part.parts _ (search rules) (search rules)
    (c.loop-part.invariant lets are) (c.in_err-next.ensures ne lets are)))

pub either-returns : goal.either-returns
either-returns t c = λ lets are.
    let items = (out-Either c.args.tree.now).parts.items in
    rw (either_tree-out c.args.tree.now, read_either-several (env_in c.args.self.now lets) (out-Either c.args.tree.now).at items c.args.tally.now.arities.items (search rules))
    (rw (take_all c.loop-part.part-index items (search rules)) at (c.whole.ensures.tests _ c.args.tally.now (c.loop-part.invariant lets are)))

pub both-loop-part-init : goal.both-loop-part-init
both-loop-part-init t c = λ lets are. HaveRead-none filter c.args.tally.now

pub both-loop-part-preserved : goal.both-loop-part-preserved
both-loop-part-preserved t c = λ lets are.
    let items = c.args.tree.now.parts.items in
    step (boths c.args.tree.now.at) (in_both (env_in c.args.self.now lets) c.args.tree.now.at) items c.loop-part.part-index c.part-item.result _ _ _ _ _ _ _ (search rules) (search rules) (c.loop-part.invariant lets are) (c.in_ok-next.ensures lets are)
    c.in_ok-joined.ensures.arities c.in_ok-joined.ensures.nodes c.in_ok-joined.ensures.part

pub both-returns-in_err-next : goal.both-returns-in_err-next
both-returns-in_err-next t c =
    let items = c.args.tree.now.parts.items in
    Reads-err c.args.self.now (λ e arities. read_both e (both_tree c.args.tree.now) arities) c.args.tally.now c.single_operand.new.tally c.from_residual.result c.in_err-next.field-0.0 (search rules)
    (λ ne lets are.
    let e = env_in c.args.self.now lets in
    ap (λ t. read_both e t c.args.tally.now.arities.items) (both_tree-out c.args.tree.now) ∙ read_both-several e c.args.tree.now.at items c.args.tally.now.arities.items (search rules)
    ∙ ap (λ r. after r whole_test) (refused (boths c.args.tree.now.at) (in_both e c.args.tree.now.at) items c.loop-part.part-index c.part-item.result c.args.tally.now c.loop-part.tally c.loop-part.parts _ (search rules) (search rules)
    (c.loop-part.invariant lets are) (c.in_err-next.ensures ne lets are)))

pub both-returns : goal.both-returns
both-returns t c = λ lets are.
    let items = c.args.tree.now.parts.items in
    rw (both_tree-out c.args.tree.now, read_both-several (env_in c.args.self.now lets) c.args.tree.now.at items c.args.tally.now.arities.items (search rules))
    (rw (take_all c.loop-part.part-index items (search rules)) at (c.whole.ensures.tests _ c.args.tally.now (c.loop-part.invariant lets are)))

pub either-returns-then-len-eq1 : goal.either-returns-then-len-eq1
either-returns-then-len-eq1 t c =
    let items = (out-Either c.args.tree.now).parts.items in
    Reads-same c.args.self.now (λ e arities. read_both e (both_tree c.index.result.now) arities) (λ e arities. read_either e (either_tree c.args.tree.now) arities) c.args.tally.now c.both.new.tally c.both.result
    (λ e arities. sym (ap (λ t. read_either e t arities) (either_tree-out c.args.tree.now) ∙ alone (eithers (out-Either c.args.tree.now).at) (λ t. read_either e t arities) (λ t. read_both e t arities) (λ x. refl) items c.index.result.now (search rules) (search rules))) c.both.ensures

pub both-returns-then-len-eq1 : goal.both-returns-then-len-eq1
both-returns-then-len-eq1 t c =
    let items = c.args.tree.now.parts.items in
    Reads-same c.args.self.now (λ e arities. read_single e (single_tree c.index.result.now) arities) (λ e arities. read_both e (both_tree c.args.tree.now) arities) c.args.tally.now c.single.new.tally c.single.result
    (λ e arities. sym (ap (λ t. read_both e t arities) (both_tree-out c.args.tree.now) ∙ alone (boths c.args.tree.now.at) (λ t. read_both e t arities) (λ t. read_single e t arities) (λ x. refl) items c.index.result.now (search rules) (search rules))) c.single.ensures

pub choice-returns-in_err-test-in-If : goal.choice-returns-in_err-test-in-If
choice-returns-in_err-test-in-If t c =
    let tree = if_tree c.in-If.at (either_tree c.in-If.test) (policy_tree c.in-If.yes.value) (choice_tree c.in-If.no.value) in
    rw (ap choice_tree c.in-If.is ∙ choice_tree-If c.in-If.at c.in-If.test c.in-If.yes c.in-If.no)
    (Reads-err c.args.self.now (λ e arities. read_choice e tree arities) c.args.tally.now c.either_operand.new.tally c.from_residual.result c.in_err-test-in-If.field-0.0 (search rules)
    (λ ne lets are. after-refused _ _ _ (c.in_err-test-in-If.ensures ne lets are)))

pub choice-returns-in_err-yes-in-If : goal.choice-returns-in_err-yes-in-If
choice-returns-in_err-yes-in-If t c =
    let tree = if_tree c.in-If.at (either_tree c.in-If.test) (policy_tree c.deref.result.now) (choice_tree c.in-If.no.value) in
    rw (ap choice_tree c.in-If.is ∙ choice_tree-If c.in-If.at c.in-If.test c.in-If.yes c.in-If.no ∙ ap (λ p. if_tree c.in-If.at (either_tree c.in-If.test) (policy_tree p) (choice_tree c.in-If.no.value)) (sym c.deref.ensures))
    (Reads-err c.args.self.now (λ e arities. read_choice e tree arities) c.args.tally.now c.policy.new.tally c.from_residual-in_err-yes-in-If.result c.in_err-yes-in-If.field-0.0 (search rules)
    (λ ne lets are.
    let e = env_in c.args.self.now lets in
    choice-met_refused (either_as_test e (either_tree c.in-If.test) c.args.tally.now.arities.items) (read_policy e (policy_tree c.deref.result.now)) (read_choice e (choice_tree c.in-If.no.value))
    c.args.tally.now c.either_operand.new.tally c.in_ok-test-in-If.test _ (c.in_ok-test-in-If.ensures lets are) (c.in_err-yes-in-If.ensures ne lets are)))

pub choice-returns-in_err-no-in-If : goal.choice-returns-in_err-no-in-If
choice-returns-in_err-no-in-If t c =
    let tree = if_tree c.in-If.at (either_tree c.in-If.test) (policy_tree c.deref.result.now) (choice_tree c.deref-in-If.result.now) in
    rw (ap choice_tree c.in-If.is ∙ choice_tree-If c.in-If.at c.in-If.test c.in-If.yes c.in-If.no ∙ ap (λ p. if_tree c.in-If.at (either_tree c.in-If.test) (policy_tree p) (choice_tree c.in-If.no.value)) (sym c.deref.ensures) ∙ ap (λ q. if_tree c.in-If.at (either_tree c.in-If.test) (policy_tree c.deref.result.now) (choice_tree q)) (sym c.deref-in-If.ensures))
    (Reads-err c.args.self.now (λ e arities. read_choice e tree arities) c.args.tally.now c.choice.new.tally c.from_residual-in_err-no-in-If.result c.in_err-no-in-If.field-0.0 (search rules)
    (λ ne lets are.
    let e = env_in c.args.self.now lets in
    choice-unmet_refused (either_as_test e (either_tree c.in-If.test) c.args.tally.now.arities.items) (read_policy e (policy_tree c.deref.result.now)) (read_choice e (choice_tree c.deref-in-If.result.now))
    c.args.tally.now c.either_operand.new.tally c.policy.new.tally c.in_ok-test-in-If.test c.in_ok-yes-in-If.yes _
    (c.in_ok-test-in-If.ensures lets are) (c.in_ok-yes-in-If.ensures lets are) (c.in_err-no-in-If.ensures ne lets are)))

pub choice-returns-in_ok-joined-in-If : goal.choice-returns-in_ok-joined-in-If
choice-returns-in_ok-joined-in-If t c =
    rw (ap choice_tree c.in-If.is ∙ choice_tree-If c.in-If.at c.in-If.test c.in-If.yes c.in-If.no ∙ ap (λ p. if_tree c.in-If.at (either_tree c.in-If.test) (policy_tree p) (choice_tree c.in-If.no.value)) (sym c.deref.ensures) ∙ ap (λ q. if_tree c.in-If.at (either_tree c.in-If.test) (policy_tree c.deref.result.now) (choice_tree q)) (sym c.deref-in-If.ensures))
    (λ lets are.
    let e = env_in c.args.self.now lets in
    HasRead-choice (either_as_test e (either_tree c.in-If.test) c.args.tally.now.arities.items) (read_policy e (policy_tree c.deref.result.now)) (read_choice e (choice_tree c.deref-in-If.result.now))
    c.args.tally.now c.either_operand.new.tally c.policy.new.tally c.choice.new.tally c.choice-in-If.new.tally c.in_ok-test-in-If.test c.in_ok-yes-in-If.yes c.in_ok-no-in-If.no c.in_ok-joined-in-If.joined
    (c.in_ok-test-in-If.ensures lets are) (c.in_ok-yes-in-If.ensures lets are) (c.in_ok-no-in-If.ensures lets are) c.in_ok-joined-in-If.ensures.arities c.in_ok-joined-in-If.ensures.nodes c.in_ok-joined-in-If.ensures.part)

pub choice-returns-in-Plain : goal.choice-returns-in-Plain
choice-returns-in-Plain t c = rw (ap choice_tree c.in-Plain.is ∙ choice_tree-Plain c.in-Plain.either) c.either.ensures

pub single-returns-in-Group : goal.single-returns-in-Group
single-returns-in-Group t c = rw (ap single_tree c.in-Group.is ∙ single_tree-Group c.in-Group.at c.in-Group.body ∙ ap (λ p. group_tree c.in-Group.at (policy_tree p)) (sym c.deref-in-Group.ensures)) c.policy.ensures

pub single-returns-in-Name : goal.single-returns-in-Name
single-returns-in-Name t c = rw (ap single_tree c.in-Name.is ∙ single_tree-Name c.in-Name.name) c.named.ensures

pub single-returns-in-Test : goal.single-returns-in-Test
single-returns-in-Test t c = rw (ap single_tree c.in-Test.is ∙ single_tree-Test c.in-Test.name c.in-Test.value) c.test_part.ensures

pub single-returns-in-Set : goal.single-returns-in-Set
single-returns-in-Set t c = rw (ap single_tree c.in-Set.is ∙ single_tree-Set c.in-Set.name c.in-Set.value) c.set_part.ensures

pub single-returns-in-Bare : goal.single-returns-in-Bare
single-returns-in-Bare t c = rw (ap single_tree c.in-Bare.is ∙ single_tree-Bare c.in-Bare.name c.in-Bare.places ∙ ap (bare_tree c.in-Bare.name) (sym c.deref-in-Bare.ensures.value)) c.bare_part.ensures

pub single-returns-in-Up : goal.single-returns-in-Up
single-returns-in-Up t c = rw (ap single_tree c.in-Up.is ∙ single_tree-Up c.in-Up.name c.in-Up.places ∙ ap (up_tree c.in-Up.name) (sym c.deref-in-Up.ensures.value)) c.step_part.ensures

pub single-returns-in-Down : goal.single-returns-in-Down
single-returns-in-Down t c = rw (ap single_tree c.in-Down.is ∙ single_tree-Down c.in-Down.name c.in-Down.places ∙ ap (down_tree c.in-Down.name) (sym c.deref-in-Down.ensures.value)) c.step_part-in-Down.ensures

pub single-returns-in-ArrayTest : goal.single-returns-in-ArrayTest
single-returns-in-ArrayTest t c = rw (ap single_tree c.in-ArrayTest.is ∙ single_tree-ArrayTest c.in-ArrayTest.name c.in-ArrayTest.places c.in-ArrayTest.value ∙ ap (λ ps. array_test_tree c.in-ArrayTest.name ps c.in-ArrayTest.value) (sym c.deref-in-ArrayTest.ensures.value)) c.array_test_part.ensures

pub single-returns-in-ArraySet : goal.single-returns-in-ArraySet
single-returns-in-ArraySet t c = rw (ap single_tree c.in-ArraySet.is ∙ single_tree-ArraySet c.in-ArraySet.name c.in-ArraySet.places c.in-ArraySet.value ∙ ap (λ ps. array_set_tree c.in-ArraySet.name ps c.in-ArraySet.value) (sym c.deref-in-ArraySet.ensures.value)) c.array_set_part.ensures

pub single-returns-in-ArrayAdd : goal.single-returns-in-ArrayAdd
single-returns-in-ArrayAdd t c = rw (ap single_tree c.in-ArrayAdd.is ∙ single_tree-ArrayAdd c.in-ArrayAdd.name c.in-ArrayAdd.places c.in-ArrayAdd.value ∙ ap (λ ps. array_add_tree c.in-ArrayAdd.name ps c.in-ArrayAdd.value) (sym c.deref-in-ArrayAdd.ensures.value)) c.array_add_part.ensures

pub single-returns-in-ArraySub : goal.single-returns-in-ArraySub
single-returns-in-ArraySub t c = rw (ap single_tree c.in-ArraySub.is ∙ single_tree-ArraySub c.in-ArraySub.name c.in-ArraySub.places c.in-ArraySub.value ∙ ap (λ ps. array_sub_tree c.in-ArraySub.name ps c.in-ArraySub.value) (sym c.deref-in-ArraySub.ensures.value)) c.array_sub_part.ensures

pub single-returns-in-Id : goal.single-returns-in-Id
single-returns-in-Id t c =
    rw (ap single_tree c.in-Id.is ∙ single_tree-Id c.in-Id.at)
    (λ lets are. HasRead-leaf (Ok (filter id_test, c.args.tally.now.arities.items)) (filter id_test) c.args.tally.now c.args.tally.now c.leaf.new.self c.leaf.result refl refl c.leaf.ensures.arities c.leaf.ensures.nodes c.leaf.ensures.part)

pub single-returns-in-Drop : goal.single-returns-in-Drop
single-returns-in-Drop t c =
    rw (ap single_tree c.in-Drop.is ∙ single_tree-Drop c.in-Drop.at)
    (λ lets are. HasRead-leaf (Ok (filter drop_test, c.args.tally.now.arities.items)) (filter drop_test) c.args.tally.now c.args.tally.now c.leaf-in-Drop.new.self c.leaf-in-Drop.result refl refl c.leaf-in-Drop.ensures.arities c.leaf-in-Drop.ensures.nodes c.leaf-in-Drop.ensures.part)

pub single-returns-in_err-part-in-Not : goal.single-returns-in_err-part-in-Not
single-returns-in_err-part-in-Not t c =
    let tree = not_tree c.in-Not.at (single_tree c.deref.result.now) in
    rw (ap single_tree c.in-Not.is ∙ single_tree-Not c.in-Not.at c.in-Not.part ∙ ap (λ s. not_tree c.in-Not.at (single_tree s)) (sym c.deref.ensures))
    (Reads-err c.args.self.now (λ e arities. read_single e tree arities) c.args.tally.now c.single_operand.new.tally c.from_residual.result c.in_err-part-in-Not.field-0.0 (search rules)
    (λ ne lets are. after-refused _ _ _ (c.in_err-part-in-Not.ensures ne lets are)))

pub single-returns-in_err-body-in-Atomic : goal.single-returns-in_err-body-in-Atomic
single-returns-in_err-body-in-Atomic t c =
    let tree = atomic_tree c.in-Atomic.at (policy_tree c.deref-in-Atomic.result.now) in
    rw (ap single_tree c.in-Atomic.is ∙ single_tree-Atomic c.in-Atomic.at c.in-Atomic.body ∙ ap (λ p. atomic_tree c.in-Atomic.at (policy_tree p)) (sym c.deref-in-Atomic.ensures))
    (Reads-err c.args.self.now (λ e arities. read_single e tree arities) c.args.tally.now c.policy-in-Atomic.new.tally c.from_residual-in_err-body-in-Atomic.result c.in_err-body-in-Atomic.field-0.0 (search rules)
    (λ ne lets are. after-refused _ _ _ (c.in_err-body-in-Atomic.ensures ne lets are)))

pub single-returns-in_ok-negated-in-Not : goal.single-returns-in_ok-negated-in-Not
single-returns-in_ok-negated-in-Not t c =
    rw (ap single_tree c.in-Not.is ∙ single_tree-Not c.in-Not.at c.in-Not.part ∙ ap (λ s. not_tree c.in-Not.at (single_tree s)) (sym c.deref.ensures))
    (λ lets are. HasRead-round filter (λ x. filter (not_test x)) (λ x. refl) _ _ _ _ _ _
    (c.in_ok-part-in-Not.ensures lets are) c.in_ok-negated-in-Not.ensures.arities c.in_ok-negated-in-Not.ensures.nodes c.in_ok-negated-in-Not.ensures.part)

pub single-returns-in_ok-whole-in-Atomic : goal.single-returns-in_ok-whole-in-Atomic
single-returns-in_ok-whole-in-Atomic t c =
    rw (ap single_tree c.in-Atomic.is ∙ single_tree-Atomic c.in-Atomic.at c.in-Atomic.body ∙ ap (λ p. atomic_tree c.in-Atomic.at (policy_tree p)) (sym c.deref-in-Atomic.ensures))
    (λ lets are. HasRead-round itself atomic (λ x. refl) _ _ _ _ _ _
    (c.in_ok-body-in-Atomic.ensures lets are) c.in_ok-whole-in-Atomic.ensures.arities c.in_ok-whole-in-Atomic.ensures.nodes c.in_ok-whole-in-Atomic.ensures.part)

pub single_operand-returns-then-part : goal.single_operand-returns-then-part
single_operand-returns-then-part t c = λ lets are. HasRead-operand _ _ _ _ _ _ _ (c.is_predicate-is_predicate.ensures lets are) (search rules) (c.in_ok-part.ensures lets are) c.if-part.true

pub single_operand-returns-else-part : goal.single_operand-returns-else-part
single_operand-returns-else-part t c = λ ne lets are.
    operand-no_test _ _ _ _ _ _ _ _ (c.is_predicate-is_predicate.ensures lets are) (search rules) c.single_fault-fault.ensures (c.in_ok-part.ensures lets are) c.if-part.false

pub both_operand-returns-then-part : goal.both_operand-returns-then-part
both_operand-returns-then-part t c = λ lets are. HasRead-operand _ _ _ _ _ _ _ (c.both_is_predicate-is_predicate.ensures lets are) (search rules) (c.in_ok-part.ensures lets are) c.if-part.true

pub both_operand-returns-else-part : goal.both_operand-returns-else-part
both_operand-returns-else-part t c = λ ne lets are.
    operand-no_test _ _ _ _ _ _ _ _ (c.both_is_predicate-is_predicate.ensures lets are) (search rules) c.both_fault-fault.ensures (c.in_ok-part.ensures lets are) c.if-part.false

pub either_operand-returns-then-part : goal.either_operand-returns-then-part
either_operand-returns-then-part t c = λ lets are. HasRead-operand _ _ _ _ _ _ _ (c.either_is_predicate-is_predicate.ensures lets are) (search rules) (c.in_ok-part.ensures lets are) c.if-part.true

pub either_operand-returns-else-part : goal.either_operand-returns-else-part
either_operand-returns-else-part t c = λ ne lets are.
    operand-no_test _ _ _ _ _ _ _ _ (c.either_is_predicate-is_predicate.ensures lets are) (search rules) c.either_fault-fault.ensures (c.in_ok-part.ensures lets are) c.if-part.false
