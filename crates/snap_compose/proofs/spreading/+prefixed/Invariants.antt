-- Ways are lower.
use Rattle.std.proofs.Common.{◌+◌, ◌*◌}
use Rattle.snap_compose.proofs.spreading.+prefixed.Given as goal

abbrev pub decreases-prefixed : goal.decreases-prefixed
decreases-prefixed l = 2 * l.d + 1

abbrev pub decreases-prefixed_anew : goal.decreases-prefixed_anew
decreases-prefixed_anew l = 2 * l.d
