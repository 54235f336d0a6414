-- The updates that are kept and those that are left do what all do.
use Rattle.std.proofs.Common.{◌≡◌, ◌++◌, ℕ, length, drop}
use Rattle.std.specs.Prelude.{All}
use Rattle.snap_core.specs.Arrays.{updates}
use Rattle.snap_equal.specs.Inputs.{AreOf, IsUpdate}
use Rattle.snap_equal.specs.Told.{On}
use Rattle.snap_equal.proofs.overwritten.standing.Given as goal

abbrev pub invariant-loop-i : goal.invariant-loop-i
invariant-loop-i l = record {
  fits : All (IsUpdate (length l.ctx.classes)) l.kept.items;
  arrays : (arrays : ℕ) → AreOf arrays l.all → AreOf arrays l.kept.items;
  same : On l.ctx (λ m k. updates m (l.kept.items ++ drop l.i l.all) k ≡ updates m l.all k);
}
