use Rattle.std.proofs.Common.{take}
use Rattle.std.specs.List.{All}
use Rattle.snap_tables.specs.Ranges.{UpsInRange}
use Rattle.snap_tables.proofs.ranges.know_stages.Given as goal

abbrev pub invariant-loop-stage : goal.invariant-loop-stage
invariant-loop-stage l = All UpsInRange (take l.stage-index l.stages)
