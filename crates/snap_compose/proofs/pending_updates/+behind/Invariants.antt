-- One update less.
use Rattle.std.proofs.Common.{◌+◌, ◌*◌}
use Rattle.snap_compose.proofs.pending_updates.+behind.Given as goal

abbrev pub decreases-behind : goal.decreases-behind
decreases-behind l = 4 * l.left + 2

abbrev pub decreases-behind_anew : goal.decreases-behind_anew
decreases-behind_anew l = 4 * l.left + 1

abbrev pub decreases-behind_op : goal.decreases-behind_op
decreases-behind_op l = 4 * l.before + 3

abbrev pub decreases-behind_hit : goal.decreases-behind_hit
decreases-behind_hit l = 4 * l.before + 4
