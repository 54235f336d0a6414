-- Other places, or operations that do the same in either order.
use Rattle.snap_equal.proofs.Turning.{turned}
use Rattle.snap_equal.proofs.places.commute.Goals as goal

pub returns-then-apart_places : goal.returns-then-apart_places
returns-then-apart_places c = λ e m k i n. turned k c.args.left.now c.args.right.now n (λ same x. absurd (c.apart_places.ensures c.if-apart_places.true m k i same))

pub returns-else-apart_places : goal.returns-else-apart_places
returns-else-apart_places c = λ e m k i n. turned k c.args.left.now c.args.right.now n (λ same x. c.ops_commute.ensures e m k i x)
