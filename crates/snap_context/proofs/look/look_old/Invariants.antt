-- If those left stay or agree with all, all do.
use Rattle.std.proofs.Common.{length}
use Rattle.snap_context.proofs.Staying.{IsWalked}
use Rattle.snap_context.proofs.look.look_old.Given as goal

abbrev pub invariant-looking : goal.invariant-looking
invariant-looking l = IsWalked l.first l.classes l.facts l.left

abbrev pub decreases-looking : goal.decreases-looking
decreases-looking l = length l.left
