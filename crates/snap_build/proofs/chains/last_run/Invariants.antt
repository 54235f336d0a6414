-- The run begins at a link.
use Rattle.std.proofs.Common.{◌<◌, length}
use Rattle.snap_build.proofs.chains.last_run.Given as goal

abbrev pub invariant-loop-start : goal.invariant-loop-start
invariant-loop-start l = l.start < length l.links

abbrev pub decreases-loop-start : goal.decreases-loop-start
decreases-loop-start l = l.start
