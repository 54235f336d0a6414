use Rattle.std.proofs.Common.{rules, ◌≡◌, ◌∙◌, sym, ap, refl}
use Rattle.snap_parse.proofs.Trees.{both_tree-out}
use Rattle.snap_names.specs.Parts.{words_of}
use Rattle.snap_names.specs.Senses.{Kind}
use Rattle.snap_names.specs.Reading.{single_fault, both_fault}
use Rattle.snap_names.proofs.Operands.{boths, alone, several}
use Rattle.snap_names.proofs.scope.Scope.both_fault.Goals as goal

pub returns-then-len-eq1 : goal.returns-then-len-eq1
returns-then-len-eq1 c =
    let w = words_of c.args.self.now in
    c.single_fault.ensures ∙ sym (ap (both_fault w) (both_tree-out c.args.tree.now) ∙ alone (boths c.args.tree.now.at) (both_fault w) (single_fault w) (λ x. refl) c.args.tree.now.parts.items c.index.result.now (search rules) (search rules))

pub returns-else-len-eq1 : goal.returns-else-len-eq1
returns-else-len-eq1 c =
    let w = words_of c.args.self.now in
    sym (ap (both_fault w) (both_tree-out c.args.tree.now) ∙ several (boths c.args.tree.now.at) (λ t. both_fault w t ≡ Kind c.args.tree.now.at) (λ t x y z h. h) (λ x y. refl) c.args.tree.now.parts.items (λ _. refl) (search rules))
