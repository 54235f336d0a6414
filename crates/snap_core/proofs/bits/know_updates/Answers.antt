use Rattle.std.proofs.Common.{subst}
use Rattle.std.specs.List.{All}
use Rattle.std.proofs.lemmas.List.{take_all}
use Rattle.std.proofs.lemmas.List.Elements.{All-more}
use Rattle.snap_core.specs.Ranges.{AtomInRange, UpdateInRange}
use Rattle.snap_core.proofs.bits.know_updates.Goals as goal

pub loop-update-preserved : goal.loop-update-preserved
loop-update-preserved c = All-more UpdateInRange c.args.updates.now c.loop-update.update-index c.update-item.result c.loop-update-test.true c.loop-update.invariant (subst UpdateInRange c.update-item.is (record { index = subst (All AtomInRange) c.items.ensures c.know_index.ensures; op = c.know_op.ensures }))

pub returns : goal.returns
returns c = subst (All UpdateInRange) (take_all c.loop-update.update-index c.args.updates.now c.loop-update-test.false) c.loop-update.invariant
