-- Fewer links.
use Rattle.std.proofs.Common.{length}
use Rattle.snap_build.proofs.chains.+join_all.Given as goal

abbrev pub decreases-join_all : goal.decreases-join_all
decreases-join_all l = length l.links.now
