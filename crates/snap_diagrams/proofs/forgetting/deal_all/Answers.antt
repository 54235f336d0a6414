-- None are left.
use Rattle.std.proofs.Common.{List, subst}
use Rattle.snap_context.specs.declared.fact.Fact.{Fact}
use Rattle.snap_diagrams.specs.Forgotten.{AreDealt}
use Rattle.snap_diagrams.proofs.Forgotten.{dealt_all}
use Rattle.snap_diagrams.proofs.forgetting.deal_all.Goals as goal

pub returns-clause-parted : goal.returns-clause-parted
returns-clause-parted c =
    dealt_all c.args.ctx.now.facts c.loop-fact.stay.items c.loop-fact.gone.items
    (subst (λ (fs : List Fact). AreDealt fs c.args.ctx.now.facts c.loop-fact.stay.items c.loop-fact.gone.items) c.in-None.ensures.steps.0 c.loop-fact.invariant.dealt)
