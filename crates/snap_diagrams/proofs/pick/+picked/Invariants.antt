-- The two diagrams are lower together.
use Rattle.std.proofs.Common.{◌+◌, ◌*◌}
use Rattle.snap_diagrams.proofs.pick.+picked.Given as goal

abbrev pub decreases-picked : goal.decreases-picked
decreases-picked l = 3 * (l.a + l.b) + 1

abbrev pub decreases-picked_anew : goal.decreases-picked_anew
decreases-picked_anew l = 3 * (l.a + l.b)

abbrev pub decreases-picked_under : goal.decreases-picked_under
decreases-picked_under l = 3 * (l.a + l.b) + 2
