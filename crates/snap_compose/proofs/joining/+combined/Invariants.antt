-- The two diagrams are lower together.
use Rattle.std.proofs.Common.{◌+◌, ◌*◌}
use Rattle.snap_compose.proofs.joining.+combined.Given as goal

abbrev pub decreases-combined : goal.decreases-combined
decreases-combined l = 2 * (l.a + l.b) + 1

abbrev pub decreases-combined_anew : goal.decreases-combined_anew
decreases-combined_anew l = 2 * (l.a + l.b)
