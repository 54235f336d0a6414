-- One atom less.
use Rattle.std.proofs.Common.{length}
use Rattle.snap_compose.proofs.pending_updates.+same_place.Given as goal

abbrev pub decreases-same_place : goal.decreases-same_place
decreases-same_place l = length l.left.now
