-- Ways are lower.
use Rattle.std.proofs.Common.{◌+◌, ◌*◌}
use Rattle.snap_compose.proofs.spreading.+followed.Given as goal

abbrev pub decreases-followed : goal.decreases-followed
decreases-followed l = 2 * l.a + 1

abbrev pub decreases-followed_anew : goal.decreases-followed_anew
decreases-followed_anew l = 2 * l.a
