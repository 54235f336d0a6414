use Rattle.std.proofs.Common.{subst}
use Rattle.std.specs.List.{All}
use Rattle.std.proofs.lemmas.List.{take_all}
use Rattle.std.proofs.lemmas.List.Elements.{All-more}
use Rattle.snap_core.specs.Ranges.{UpdateInRange}
use Rattle.snap_tables.specs.Ranges.{UpsInRange}
use Rattle.snap_tables.proofs.ranges.know_stages.Goals as goal

pub loop-stage-preserved : goal.loop-stage-preserved
loop-stage-preserved c = All-more UpsInRange c.args.stages.now c.loop-stage.stage-index c.stage-item.result c.loop-stage-test.true c.loop-stage.invariant (subst UpsInRange c.stage-item.is (subst (All UpdateInRange) c.items.ensures c.know_updates.ensures))

pub returns : goal.returns
returns c = subst (All UpsInRange) (take_all c.loop-stage.stage-index c.args.stages.now c.loop-stage-test.false) c.loop-stage.invariant
