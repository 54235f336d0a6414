-- Two puts.
use Rattle.snap_equal.proofs.places.reads_op.Goals as goal

pub returns-in-Put-right : goal.returns-in-Put-right
returns-in-Put-right c = λ e m k i x. rw (c.in-Put.is, c.in-Put-right.is) (c.reads_same.ensures e m k i)
