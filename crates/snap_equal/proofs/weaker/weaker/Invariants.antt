-- What was kept so far, and what is left.
use Rattle.std.specs.Prelude.{ℕ, List}
use Rattle.snap_core.specs.Arrays.{Arrays}
use Rattle.snap_context.specs.Meets.{Meets}
use Rattle.snap_equal.specs.Weaker.{IsWeaker}
use Rattle.snap_equal.proofs.weaker.weaker.Given as goal

abbrev pub invariant-loop-fact : goal.invariant-loop-fact
invariant-loop-fact l = IsWeaker l.ctx l.weak × ((m : Arrays) (k : List ℕ) → Meets l.ctx.facts m k → Meets l.fact-iterator.left.now m k)
