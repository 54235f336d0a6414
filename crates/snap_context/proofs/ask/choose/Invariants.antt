-- No number so far will do.
use Rattle.std.proofs.Common.{ℕ, ◌<◌}
use Rattle.snap_context.specs.Asks.{IsNever}
use Rattle.snap_context.proofs.ask.choose.Given as goal

abbrev pub invariant-loop-num : goal.invariant-loop-num
invariant-loop-num l = (j : ℕ) → j < l.num → IsNever l.ctx l.ask j
