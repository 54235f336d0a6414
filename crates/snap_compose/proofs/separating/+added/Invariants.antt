-- Ways are lower.
use Rattle.std.proofs.Common.{◌+◌, ◌*◌}
use Rattle.snap_compose.proofs.separating.+added.Given as goal

abbrev pub decreases-added : goal.decreases-added
decreases-added l = 2 * l.d + 1

abbrev pub decreases-added_anew : goal.decreases-added_anew
decreases-added_anew l = 2 * l.d
