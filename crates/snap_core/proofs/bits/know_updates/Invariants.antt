use Rattle.std.proofs.Common.{take}
use Rattle.std.specs.List.{All}
use Rattle.snap_core.specs.Ranges.{UpdateInRange}
use Rattle.snap_core.proofs.bits.know_updates.Given as goal

abbrev pub invariant-loop-update : goal.invariant-loop-update
invariant-loop-update l = All UpdateInRange (take l.update-index l.updates)
