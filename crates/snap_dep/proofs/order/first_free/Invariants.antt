use Rattle.std.proofs.Common.{ℕ, ◌<◌}
use Rattle.snap_dep.specs.Relations.{IsFree}
use Rattle.snap_dep.proofs.order.first_free.Given as goal

abbrev pub invariant-loop-next : goal.invariant-loop-next
invariant-loop-next l = (v : ℕ) → v < l.next → ¬ (IsFree l.rows l.set v)
