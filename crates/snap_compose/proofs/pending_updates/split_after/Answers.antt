-- Behind all updates.
use Rattle.std.proofs.Common.{ap, refl, ◌∙◌}
use Rattle.std.proofs.lemmas.Result.{IfOk-weaker}
use Rattle.snap_compose.specs.declared.pulled_back.Early.TheVariants.{Ask}
use Rattle.snap_compose.proofs.Splitting.{split_behind}
use Rattle.snap_compose.proofs.pending_updates.split_after.Goals as goal

pub returns-in-Ask-State-clause-split : goal.returns-in-Ask-State-clause-split
returns-in-Ask-State-clause-split c =
    IfOk-weaker c.behind.result _ _ (λ d s. split_behind c.args.groups.now c.args.ctx.now c.args.ups.now c.args.early c.in-Ask-State.var c.in-Ask-State.index c.in-Ask-State.value _ c.number_of-num.result _ _ _
    (c.in-Ask-State.is ∙ ap Ask c.in-Ask-State.field-0-is) refl c.number_of-num.ensures s) c.behind.ensures.split
