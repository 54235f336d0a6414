-- One out less.
use Rattle.std.proofs.Common.{length}
use Rattle.snap_compose.proofs.separating.+where_any.Given as goal

abbrev pub decreases-where_any : goal.decreases-where_any
decreases-where_any l = length l.others.now
