-- What is pushed so far, and what is left.
use Rattle.std.proofs.Common.{◌≡◌, ◌++◌, drop}
use Rattle.snap_compose.specs.Joined.{only}
use Rattle.snap_compose.proofs.leaves.push_updates.Given as goal

abbrev pub invariant-loop-update : goal.invariant-loop-update
invariant-loop-update l = l.to.items ++ only l.set (drop l.update-index l.updates) ≡ l.fn.to.items ++ only l.fn.set l.fn.updates
