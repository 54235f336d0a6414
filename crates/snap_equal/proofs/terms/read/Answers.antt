-- The class with the offset.
use Rattle.std.proofs.Common.{sym, ap, ◌∙◌}
use Rattle.snap_core.specs.declared.policy.Term.{Term}
use Rattle.snap_core.specs.Tests.{term_value}
use Rattle.snap_context.specs.Classes.{wrap}
use Rattle.snap_context.proofs.Algebra.{term_value-shift}
use Rattle.snap_equal.proofs.terms.read.Goals as goal

pub returns-in-Plus-clause-value : goal.returns-in-Plus-clause-value
returns-in-Plus-clause-value c = λ m k i.
    ap (λ (t : Term). term_value t k) c.shifted.ensures
    ∙ term_value-shift k c.class.result c.in-Plus.plus
    ∙ ap (λ x. wrap x c.in-Plus.plus) (c.class.ensures.told m k i.packet i.facts)
    ∙ sym (ap (λ (t : Term). term_value t k) c.in-Plus.is)
