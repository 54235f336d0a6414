-- The first index is shorter.
use Rattle.std.proofs.Common.{length}
use Rattle.snap_diagrams.proofs.order.+compare_indices.Given as goal

abbrev pub decreases-compare_indices : goal.decreases-compare_indices
decreases-compare_indices l = length l.a.now
