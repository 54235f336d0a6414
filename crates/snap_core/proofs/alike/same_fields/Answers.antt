-- One field more.
use Rattle.std.proofs.Common.{arith}
use Rattle.snap_core.proofs.AlikeLemmas.{take_both}
use Rattle.snap_core.proofs.alike.same_fields.Goals as goal

pub loop-i-preserved : goal.loop-i-preserved
loop-i-preserved c = take_both c.args.left.now c.args.right.now c.loop-i.i c.index-left-i.result c.index-right-i.result c.loop-i-test.true (omega arith) c.index-left-i.is c.index-right-i.is
    (c.is_same_field.ensures.0 c.if-not-is_same_field.false) c.loop-i.invariant
