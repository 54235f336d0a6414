-- Ways are lower.
use Rattle.std.proofs.Common.{◌+◌, ◌*◌}
use Rattle.snap_compose.proofs.negating.+negated.Given as goal

abbrev pub decreases-negated : goal.decreases-negated
decreases-negated l = 2 * l.a + 1

abbrev pub decreases-negated_anew : goal.decreases-negated_anew
decreases-negated_anew l = 2 * l.a
