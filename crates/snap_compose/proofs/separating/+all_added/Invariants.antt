-- One out less.
use Rattle.std.proofs.Common.{length}
use Rattle.snap_compose.proofs.separating.+all_added.Given as goal

abbrev pub decreases-all_added : goal.decreases-all_added
decreases-all_added l = length l.outs.now
