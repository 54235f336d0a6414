-- One variable, and equal indices.
use Rattle.std.proofs.Common.{sym}
use Rattle.snap_equal.proofs.Indices.{same_place_of}
use Rattle.snap_equal.proofs.places.reads_place.Goals as goal

pub returns-then-left-right : goal.returns-then-left-right
returns-then-left-right c = λ e m k i.
    same_place_of k c.args.left.now.var c.args.right.now.var c.args.left.now.index c.args.right.now.index c.if-left-right.true
    (rw (sym c.items.ensures, sym c.items-then-left-right.ensures) (c.reads_index.ensures e m k i))
