-- Ways are lower.
use Rattle.std.proofs.Common.{◌+◌, ◌*◌}
use Rattle.snap_compose.proofs.substituted.+later.Given as goal

abbrev pub decreases-later : goal.decreases-later
decreases-later l = 2 * l.d + 1

abbrev pub decreases-later_anew : goal.decreases-later_anew
decreases-later_anew l = 2 * l.d
