use Rattle.std.proofs.Common.{◌≡◌, ◌≤◌, ◌+◌, ◌-◌, ◌^◌, ℕ, length}
use Rattle.snap_core.specs.Cells.{array_at, room_at}
use Rattle.snap_core.proofs.store.reach.Given as goal

abbrev pub invariant-loop-alloc : goal.invariant-loop-alloc
invariant-loop-alloc l = record {
  longer : length l.initial.arrays.items ≤ length l.arrays.items;
  most : length l.initial.arrays.items ≤ 2 ^ 16 → length l.arrays.items ≤ 2 ^ 16;
  cells : (s : ℕ) → (array_at l.arrays.items s).0 ≡ (array_at l.initial.arrays.items s).0;
  room : (s : ℕ) → room_at l.initial.arrays.items s ≤ room_at l.arrays.items s;
}

abbrev pub decreases-loop-alloc : goal.decreases-loop-alloc
decreases-loop-alloc l = l.var + 1 - length l.arrays.items
