-- What is put together does the same as the updates so far.
use Rattle.std.proofs.Common.{take}
use Rattle.snap_compose.specs.Fixed.{EndInRun}
use Rattle.snap_compose.proofs.fixed.in_runs.Given as goal

abbrev pub invariant-loop-update : goal.invariant-loop-update
invariant-loop-update l = EndInRun (take l.update-index l.ups) l.ordered.items l.run.items
