-- One update more.
use Rattle.std.proofs.Common.{subst}
use Rattle.std.proofs.lemmas.List.{take_all}
use Rattle.snap_compose.specs.Marks.{UpdatesAmong}
use Rattle.snap_compose.proofs.Marked.{update_more}
use Rattle.snap_compose.proofs.marks.updated_by.Goals as goal

pub loop-update-preserved : goal.loop-update-preserved
loop-update-preserved c = update_more c.loop-update.set c.bit-set.result c.args.updates.now c.loop-update.update-index c.update-item.result c.loop-update-test.true c.update-item.is c.loop-update.invariant c.bit-set.ensures

pub returns : goal.returns
returns c = subst (UpdatesAmong c.loop-update.set) (take_all c.loop-update.update-index c.args.updates.now c.loop-update-test.false) c.loop-update.invariant
