-- The variables so far.
use Rattle.std.proofs.Common.{take}
use Rattle.snap_compose.specs.Marks.{UpdatesAmong}
use Rattle.snap_compose.proofs.marks.updated_by.Given as goal

abbrev pub invariant-loop-update : goal.invariant-loop-update
invariant-loop-update l = UpdatesAmong l.set (take l.update-index l.updates)
