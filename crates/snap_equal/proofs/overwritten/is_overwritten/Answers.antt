-- The update that writes the place.
use Rattle.snap_equal.proofs.Overwriting.{lost}
use Rattle.snap_equal.proofs.overwritten.is_overwritten.Goals as goal

pub returns-then-reads_place : goal.returns-then-reads_place
returns-then-reads_place c = λ e m k i.
    lost k c.args.before.now c.other-item.result c.args.behind.now c.loop-other.other-index c.loop-other-test.true c.other-item.is (c.reads_place.ensures c.if-reads_place.true m k i)
    (λ x y. c.is_put.ensures c.if-is_put.true x y k)
