-- What is let go is done last.
use Rattle.std.proofs.Common.{◌≡◌, ℕ, ◌≤◌, drop, length}
use Rattle.std.specs.Prelude.{All}
use Rattle.snap_core.specs.Arrays.{updates}
use Rattle.snap_equal.specs.Inputs.{AreOf, IsUpdate}
use Rattle.snap_equal.specs.Told.{On}
use Rattle.snap_equal.proofs.orders.unmatched.Given as goal

abbrev pub invariant-loop-count : goal.invariant-loop-count
invariant-loop-count l = record {
  few : l.count ≤ length l.left;
  fits : All (IsUpdate (length l.ctx.classes)) l.rest.items;
  arrays : (arrays : ℕ) → AreOf arrays l.right → AreOf arrays l.rest.items;
  rest : On l.ctx (λ m k. updates m l.right k ≡ updates (updates m l.rest.items k) (drop l.count l.left) k);
}

abbrev pub decreases-loop-count : goal.decreases-loop-count
decreases-loop-count l = l.count
