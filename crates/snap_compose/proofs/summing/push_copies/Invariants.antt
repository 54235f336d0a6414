-- Those so far are behind.
use Rattle.std.proofs.Common.{◌≡◌, ◌++◌, take}
use Rattle.snap_compose.proofs.summing.push_copies.Given as goal

abbrev pub invariant-loop-update : goal.invariant-loop-update
invariant-loop-update l = l.updates.items ≡ l.initial.updates.items ++ take l.update-index l.more
