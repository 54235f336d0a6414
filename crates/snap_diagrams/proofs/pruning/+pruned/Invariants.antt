-- Ways are lower.
use Rattle.std.proofs.Common.{◌+◌, ◌*◌}
use Rattle.snap_diagrams.proofs.pruning.+pruned.Given as goal

abbrev pub decreases-pruned : goal.decreases-pruned
decreases-pruned l = 3 * l.d + 2

abbrev pub decreases-pruned_under : goal.decreases-pruned_under
decreases-pruned_under l = 3 * l.d + 1

abbrev pub decreases-pruned_anew : goal.decreases-pruned_anew
decreases-pruned_anew l = 3 * l.d
