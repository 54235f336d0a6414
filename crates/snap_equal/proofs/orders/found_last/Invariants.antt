-- The update goes behind those that were looked at.
use Rattle.std.proofs.Common.{drop}
use Rattle.snap_equal.specs.Told.{On}
use Rattle.snap_equal.proofs.Turning.{GoesBehind}
use Rattle.snap_equal.proofs.orders.found_last.Given as goal

abbrev pub invariant-loop-i : goal.invariant-loop-i
invariant-loop-i l = On l.ctx (λ m k. GoesBehind k l.wanted (drop l.i l.list))
