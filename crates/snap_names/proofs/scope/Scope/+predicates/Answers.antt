use Rattle.std.proofs.Common.{rules, ◌≡◌, ◌≢◌, ◌∙◌, sym, ap, true, false, length, refl}
use Rattle.snap_parse.specs.declared.tree.Policy.{out-Policy}
use Rattle.snap_parse.specs.declared.tree.Either.{out-Either}
use Rattle.snap_parse.proofs.Trees.{sequence_tree-out, both_tree-out}
use Rattle.snap_names.proofs.Nodes.{policy_tree-out, either_tree-out}
use Rattle.snap_names.specs.Parts.{env_in}
use Rattle.snap_names.specs.Reading.{is_predicate, both_is_predicate, either_is_predicate, choice_is_predicate, sequence_is_predicate, policy_is_predicate}
use Rattle.snap_names.proofs.Operands.{policies, sequences, eithers, boths, alone, empty, several}
use Rattle.snap_names.proofs.scope.Scope.+predicates.Goals as goal

pub both_is_predicate-returns-in-0 : goal.both_is_predicate-returns-in-0
both_is_predicate-returns-in-0 t c = λ lets are.
    let e = env_in c.args.self.now lets in
    sym (ap (both_is_predicate e) (both_tree-out c.args.tree.now) ∙ empty (boths c.args.tree.now.at) (both_is_predicate e) c.args.tree.now.parts.items (search rules))

pub both_is_predicate-returns-in-1 : goal.both_is_predicate-returns-in-1
both_is_predicate-returns-in-1 t c = λ lets are.
    let e = env_in c.args.self.now lets in
    c.is_predicate.ensures lets are ∙ sym (ap (both_is_predicate e) (both_tree-out c.args.tree.now) ∙ alone (boths c.args.tree.now.at) (both_is_predicate e) (is_predicate e) (λ x. refl) c.args.tree.now.parts.items c.index.result.now (search rules) (search rules))

pub both_is_predicate-returns-in_default : goal.both_is_predicate-returns-in_default
both_is_predicate-returns-in_default t c = λ lets are.
    let e = env_in c.args.self.now lets in
    let some : length c.args.tree.now.parts.items ≢ 0 = search rules in
    sym (ap (both_is_predicate e) (both_tree-out c.args.tree.now) ∙ several (boths c.args.tree.now.at) (λ t. both_is_predicate e t ≡ true) (λ t x y z h. h) (λ x y. refl) c.args.tree.now.parts.items (λ z. absurd (some z)) (search rules))

pub either_is_predicate-returns-in-0 : goal.either_is_predicate-returns-in-0
either_is_predicate-returns-in-0 t c = λ lets are.
    let e = env_in c.args.self.now lets in
    sym (ap (either_is_predicate e) (either_tree-out c.args.tree.now) ∙ empty (eithers (out-Either c.args.tree.now).at) (either_is_predicate e) (out-Either c.args.tree.now).parts.items (search rules))

pub either_is_predicate-returns-in-1 : goal.either_is_predicate-returns-in-1
either_is_predicate-returns-in-1 t c = λ lets are.
    let e = env_in c.args.self.now lets in
    c.both_is_predicate.ensures lets are ∙ sym (ap (either_is_predicate e) (either_tree-out c.args.tree.now) ∙ alone (eithers (out-Either c.args.tree.now).at) (either_is_predicate e) (both_is_predicate e) (λ x. refl) (out-Either c.args.tree.now).parts.items c.index.result.now (search rules) (search rules))

pub either_is_predicate-returns-in_default : goal.either_is_predicate-returns-in_default
either_is_predicate-returns-in_default t c = λ lets are.
    let e = env_in c.args.self.now lets in
    let some : length (out-Either c.args.tree.now).parts.items ≢ 0 = search rules in
    sym (ap (either_is_predicate e) (either_tree-out c.args.tree.now) ∙ several (eithers (out-Either c.args.tree.now).at) (λ t. either_is_predicate e t ≡ true) (λ t x y z h. h) (λ x y. refl) (out-Either c.args.tree.now).parts.items (λ z. absurd (some z)) (search rules))

pub sequence_is_predicate-returns-then-len-eq1 : goal.sequence_is_predicate-returns-then-len-eq1
sequence_is_predicate-returns-then-len-eq1 t c = λ lets are.
    let e = env_in c.args.self.now lets in
    c.choice_is_predicate.ensures lets are ∙ sym (ap (sequence_is_predicate e) (sequence_tree-out c.args.tree.now) ∙ alone (sequences c.args.tree.now.at) (sequence_is_predicate e) (choice_is_predicate e) (λ x. refl) c.args.tree.now.parts.items c.index.result.now (search rules) (search rules))

pub sequence_is_predicate-returns-else-len-eq1 : goal.sequence_is_predicate-returns-else-len-eq1
sequence_is_predicate-returns-else-len-eq1 t c = λ lets are.
    let e = env_in c.args.self.now lets in
    sym (ap (sequence_is_predicate e) (sequence_tree-out c.args.tree.now) ∙ several (sequences c.args.tree.now.at) (λ t. sequence_is_predicate e t ≡ false) (λ t x y z h. h) (λ x y. refl) c.args.tree.now.parts.items (λ _. refl) (search rules))

pub policy_is_predicate-returns-then-len-eq1 : goal.policy_is_predicate-returns-then-len-eq1
policy_is_predicate-returns-then-len-eq1 t c = λ lets are.
    let e = env_in c.args.self.now lets in
    c.sequence_is_predicate.ensures lets are ∙ sym (ap (policy_is_predicate e) (policy_tree-out c.args.tree.now) ∙ alone (policies (out-Policy c.args.tree.now).at) (policy_is_predicate e) (sequence_is_predicate e) (λ x. refl) (out-Policy c.args.tree.now).parts.items c.index.result.now (search rules) (search rules))

pub policy_is_predicate-returns-else-len-eq1 : goal.policy_is_predicate-returns-else-len-eq1
policy_is_predicate-returns-else-len-eq1 t c = λ lets are.
    let e = env_in c.args.self.now lets in
    sym (ap (policy_is_predicate e) (policy_tree-out c.args.tree.now) ∙ several (policies (out-Policy c.args.tree.now).at) (λ t. policy_is_predicate e t ≡ false) (λ t x y z h. h) (λ x y. refl) (out-Policy c.args.tree.now).parts.items (λ _. refl) (search rules))
