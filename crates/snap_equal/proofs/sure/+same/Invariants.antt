-- Ways are lower.
use Rattle.std.proofs.Common.{◌+◌, ◌*◌}
use Rattle.std.specs.Prelude.{max}
use Rattle.snap_equal.proofs.sure.+same.Given as goal

abbrev pub decreases-same : goal.decreases-same
decreases-same l = 5 * (l.first + l.second) + 3

abbrev pub decreases-same_met : goal.decreases-same_met
decreases-same_met l = 5 * (l.first + l.second) + 2

abbrev pub decreases-same_anew : goal.decreases-same_anew
decreases-same_anew l = 5 * (l.first + l.second) + 1

abbrev pub decreases-same_ways : goal.decreases-same_ways
decreases-same_ways l = 5 * max (l.left_yes + l.right_yes) (l.left_no + l.right_no) + 5

abbrev pub decreases-same_where : goal.decreases-same_where
decreases-same_where l = 5 * (l.first + l.second) + 4
