-- One atom less.
use Rattle.std.proofs.Common.{length}
use Rattle.snap_compose.proofs.pending_updates.+where_same.Given as goal

abbrev pub decreases-where_same : goal.decreases-where_same
decreases-where_same l = length l.left.now
