use Rattle.std.proofs.Common.{◌≡◌, ◌≤◌, ℕ, length}
use Rattle.snap_core.specs.declared.place.Place.{Place}
use Rattle.snap_core.proofs.ArrayListings.{below}
use Rattle.snap_net.specs.Shown.{Holds, gathered, store_of}
use Rattle.snap_net.proofs.rehousing.move_arrays.Given as goal

-- the arrays so far have moved, and the others are where they were
abbrev pub invariant-loop-var : goal.invariant-loop-var
invariant-loop-var l = let first = l.fn.old.items in record {
  old : length l.old.items ≡ length first;
  new : length l.new.items ≡ length l.fn.new.items;
  same : (w : ℕ) (p : Place) → l.var ≤ p.var → store_of l.old.items w p ≡ store_of first w p;
  holds : Holds l.to l.new.items (below l.var (gathered l.from first));
}
