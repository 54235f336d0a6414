-- The terms as they are read.
use Rattle.std.proofs.Common.{◌≡◌, sym, ap, ◌∙◌}
use Rattle.snap_core.specs.declared.policy.Term.{Term}
use Rattle.snap_core.specs.Tests.{term_value}
use Rattle.snap_equal.proofs.Telling.{result_as}
use Rattle.snap_equal.proofs.terms.same_terms.Goals as goal

pub returns-then-are_spelled_same : goal.returns-then-are_spelled_same
returns-then-are_spelled_same c = λ m k i.
    sym (c.read-first.ensures.value m k i) ∙ ap (λ (t : Term). term_value t k) (c.are_spelled_same.ensures.0 c.if-are_spelled_same.true) ∙ c.read-second.ensures.value m k i

pub returns-else-are_spelled_same : goal.returns-else-are_spelled_same
returns-else-are_spelled_same c =
    result_as c.args.ctx.now 0 (λ m k. term_value c.read-first.result k ≡ term_value c.read-second.result k) (λ m k. term_value c.args.left k ≡ term_value c.args.right k)
    (λ m k i e. sym (c.read-first.ensures.value m k i) ∙ e ∙ c.read-second.ensures.value m k i)
    (λ m k i e. c.read-first.ensures.value m k i ∙ e ∙ sym (c.read-second.ensures.value m k i))
    c.ask_terms.result c.ask_terms.ensures
