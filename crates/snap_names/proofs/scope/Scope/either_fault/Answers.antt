use Rattle.std.proofs.Common.{rules, ◌≡◌, ◌∙◌, sym, ap, refl}
use Rattle.snap_parse.specs.declared.tree.Either.{out-Either}
use Rattle.snap_names.proofs.Nodes.{either_tree-out}
use Rattle.snap_names.specs.Parts.{words_of}
use Rattle.snap_names.specs.Senses.{Kind}
use Rattle.snap_names.specs.Reading.{both_fault, either_fault}
use Rattle.snap_names.proofs.Operands.{eithers, alone, several}
use Rattle.snap_names.proofs.scope.Scope.either_fault.Goals as goal

pub returns-then-len-eq1 : goal.returns-then-len-eq1
returns-then-len-eq1 c =
    let w = words_of c.args.self.now in
    c.both_fault.ensures ∙ sym (ap (either_fault w) (either_tree-out c.args.tree.now) ∙ alone (eithers (out-Either c.args.tree.now).at) (either_fault w) (both_fault w) (λ x. refl) (out-Either c.args.tree.now).parts.items c.index.result.now (search rules) (search rules))

pub returns-else-len-eq1 : goal.returns-else-len-eq1
returns-else-len-eq1 c =
    let w = words_of c.args.self.now in
    sym (ap (either_fault w) (either_tree-out c.args.tree.now) ∙ several (eithers (out-Either c.args.tree.now).at) (λ t. either_fault w t ≡ Kind (out-Either c.args.tree.now).at) (λ t x y z h. h) (λ x y. refl) (out-Either c.args.tree.now).parts.items (λ _. refl) (search rules))
