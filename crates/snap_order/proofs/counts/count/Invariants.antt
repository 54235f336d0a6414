use Rattle.snap_order.specs.Turning.{HasCounted}
use Rattle.snap_order.proofs.counts.count.Given as goal

abbrev pub invariant-loop-j : goal.invariant-loop-j
invariant-loop-j l = HasCounted l.fn.counts.items l.rank l.j l.number l.counts.items
