-- The last run ends.
use Rattle.std.proofs.Common.{List, ◌++◌, arith, subst}
use Rattle.std.proofs.lemmas.List.{take_all}
use Rattle.snap_core.specs.declared.policy.Update.{Update}
use Rattle.snap_compose.specs.Fixed.{AreReordered}
use Rattle.snap_compose.proofs.AtNumbers.{reordered-trans}
use Rattle.snap_compose.proofs.fixed.in_runs.Goals as goal

pub returns : goal.returns
returns c =
    let ups : List Update = c.args.ups.now in
    let some : List Update = c.loop-update.ordered.items ++ c.loop-update.run.items in
    reordered-trans ups some c.push_run.new.ordered.items
    (subst (λ (us : List Update). AreReordered us some) (take_all c.loop-update.update-index ups (omega (arith, c.loop-update-test.false))) c.loop-update.invariant.same)
    c.in_ok-push_run.ensures.reordered
