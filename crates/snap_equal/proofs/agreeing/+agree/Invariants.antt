-- Ways are lower.
use Rattle.std.proofs.Common.{◌+◌, ◌*◌}
use Rattle.snap_equal.proofs.agreeing.+agree.Given as goal

abbrev pub decreases-agree : goal.decreases-agree
decreases-agree l = 2 * l.first + 1

abbrev pub decreases-agree_anew : goal.decreases-agree_anew
decreases-agree_anew l = 2 * l.first
