-- Those so far are behind.
use Rattle.std.proofs.Common.{◌++◌, take}
use Rattle.snap_compose.specs.Additions.{AreSame}
use Rattle.snap_compose.proofs.summing.push_updates.Given as goal

abbrev pub invariant-loop-update : goal.invariant-loop-update
invariant-loop-update l = AreSame l.updates.items (l.initial.updates.items ++ take l.update-index l.more)
