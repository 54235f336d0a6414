-- Ways are lower.
use Rattle.std.proofs.Common.{◌+◌, ◌*◌}
use Rattle.snap_compose.proofs.choosing.+chosen.Given as goal

abbrev pub decreases-chosen : goal.decreases-chosen
decreases-chosen l = 2 * l.x + 1

abbrev pub decreases-chosen_anew : goal.decreases-chosen_anew
decreases-chosen_anew l = 2 * l.x
