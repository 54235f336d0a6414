-- One place, and operations that do the same.
use Rattle.snap_equal.proofs.Indices.{same_update}
use Rattle.snap_equal.proofs.places.reads_update.Goals as goal

pub returns-then-reads_place : goal.returns-then-reads_place
returns-then-reads_place c = λ e m k i n. same_update k c.args.left.now c.args.right.now n (c.reads_place.ensures c.if-reads_place.true m k i) (c.reads_op.ensures e m k i)
