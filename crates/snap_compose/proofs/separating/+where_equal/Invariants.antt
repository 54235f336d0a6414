-- One component less.
use Rattle.snap_compose.proofs.separating.+where_equal.Given as goal

abbrev pub decreases-where_equal : goal.decreases-where_equal
decreases-where_equal l = l.comps
