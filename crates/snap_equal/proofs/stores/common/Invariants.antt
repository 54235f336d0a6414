-- The updates so far do the same.
use Rattle.std.proofs.Common.{◌≡◌, ◌≤◌, ◌-◌, length, take}
use Rattle.snap_core.specs.Arrays.{updates}
use Rattle.snap_core.specs.Inputs.{IsStore}
use Rattle.snap_equal.specs.Told.{On}
use Rattle.snap_equal.proofs.stores.common.Given as goal

abbrev pub invariant-loop-count : goal.invariant-loop-count
invariant-loop-count l = record {
  left : l.count ≤ length l.left;
  right : l.count ≤ length l.right;
  same : On l.ctx (λ m k. updates m (take l.count l.left) k ≡ updates m (take l.count l.right) k);
  small : On l.ctx (λ m k. IsStore (updates m (take l.count l.left) k));
}

abbrev pub decreases-loop-count : goal.decreases-loop-count
decreases-loop-count l = length l.left - l.count
