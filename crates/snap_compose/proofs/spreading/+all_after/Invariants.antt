-- One out less.
use Rattle.std.proofs.Common.{length}
use Rattle.snap_compose.proofs.spreading.+all_after.Given as goal

abbrev pub decreases-all_after : goal.decreases-all_after
decreases-all_after l = length l.outs.now
