-- The parts of a predicate are smaller.
use Rattle.std.proofs.Common.{◌+◌, ◌*◌, max}
use Rattle.snap_core.specs.declared.policy.Pred.{size-Pred}
use Rattle.snap_build.proofs.predicates.+link.Given as goal

abbrev pub decreases-link : goal.decreases-link
decreases-link l = 3 * size-Pred l.pred.now

abbrev pub decreases-links : goal.decreases-links
decreases-links l = 3 * size-Pred l.pred.now + 1

abbrev pub decreases-chain : goal.decreases-chain
decreases-chain l = 3 * max (size-Pred l.left.now) (size-Pred l.right.now) + 2
