-- Both put the same number.
use Rattle.std.proofs.Common.{sym}
use Rattle.snap_equal.proofs.places.ops_commute.Goals as goal

pub returns-in-Put-right : goal.returns-in-Put-right
returns-in-Put-right c = λ e m k i x. rw (c.in-Put.is, c.in-Put-right.is) (sym (c.reads_same.ensures e m k i))
