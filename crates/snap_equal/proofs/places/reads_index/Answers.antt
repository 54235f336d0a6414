-- Atom by atom.
use Rattle.std.proofs.Common.{◌≡◌, get_or, arith, below_more}
use Rattle.snap_core.specs.declared.policy.Atom.TheVariants.{Num as Number}
use Rattle.snap_core.specs.Arrays.{value_of}
use Rattle.snap_equal.specs.Told.{On}
use Rattle.snap_equal.proofs.Indices.{same_numbers}
use Rattle.snap_equal.proofs.places.reads_index.Goals as goal

pub loop-i-preserved : goal.loop-i-preserved
loop-i-preserved c = below_more (λ j. On c.args.ctx.now (λ m k. value_of (get_or c.args.left.now j (Number 0)) k ≡ value_of (get_or c.args.right.now j (Number 0)) k)) c.loop-i.i c.loop-i.invariant
    (c.reads_same.ensures c.if-not-reads_same.false)

pub returns : goal.returns
returns c = λ e m k i. same_numbers k c.args.left.now c.args.right.now c.if-left-right.false (λ j l. c.loop-i.invariant j (omega arith) m k i)
