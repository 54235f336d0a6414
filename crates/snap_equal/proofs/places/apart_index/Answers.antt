-- Numbers that differ.
use Rattle.std.proofs.Common.{arith}
use Rattle.snap_equal.proofs.Indices.{number_at}
use Rattle.snap_equal.proofs.places.apart_index.Goals as goal

pub returns-then-reads_apart : goal.returns-then-reads_apart
returns-then-reads_apart c = λ e m k i same.
    c.reads_apart.ensures c.if-reads_apart.true m k i (number_at k c.args.left.now c.args.right.now c.loop-i.i (omega arith) (omega arith) same)
