-- The puts so far are in the set.
use Rattle.std.proofs.Common.{◌≡◌, ℕ, false, take}
use Rattle.snap_core.specs.Arrays.{has}
use Rattle.snap_equal.specs.Tally.{AddOutside}
use Rattle.snap_equal.proofs.tally.with_puts.Given as goal

abbrev pub invariant-loop-update : goal.invariant-loop-update
invariant-loop-update l = record {
  more : (v : ℕ) → has l.arrays v ≡ false → has l.set v ≡ false;
  puts : AddOutside l.arrays (take l.update-index l.updates);
}
