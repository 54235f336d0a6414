-- What is left of the pair is lower.
use Rattle.std.proofs.Common.{◌+◌, ◌*◌}
use Rattle.snap_compose.proofs.chaining.+chained.Given as goal

abbrev pub decreases-chained : goal.decreases-chained
decreases-chained l = 2 * (l.a + l.d) + 1

abbrev pub decreases-chained_anew : goal.decreases-chained_anew
decreases-chained_anew l = 2 * (l.a + l.d)
