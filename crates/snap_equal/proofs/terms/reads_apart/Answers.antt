-- Terms as they are read.
use Rattle.std.proofs.Common.{ℕ, length, sym, ap, ◌∙◌}
use Rattle.snap_core.specs.declared.policy.Term.{Term}
use Rattle.snap_core.specs.Tests.{term_value}
use Rattle.snap_compose.proofs.Values.{term_of-value}
use Rattle.snap_equal.proofs.terms.reads_apart.Goals as goal

pub returns : goal.returns
returns c = λ e m k i same.
    let value : Term → ℕ = λ t. term_value t k in
    c.are_other_numbers.ensures e k
    (c.read.ensures.value m k i
    ∙ ap value c.term_of.ensures
    ∙ term_of-value (length c.args.ctx.now.classes) c.args.left k i.packet c.requires.left
    ∙ same
    ∙ sym (term_of-value (length c.args.ctx.now.classes) c.args.right k i.packet c.requires.right)
    ∙ sym (ap value c.term_of-2.ensures)
    ∙ sym (c.read-2.ensures.value m k i))
