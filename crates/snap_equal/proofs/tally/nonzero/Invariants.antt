-- What is kept adds as much as the sums so far.
use Rattle.std.proofs.Common.{◌≡◌, ℕ, List, take}
use Rattle.std.specs.Prelude.{All}
use Rattle.snap_core.specs.declared.place.Place.{Place}
use Rattle.snap_equal.specs.Tally.{IsSum, total}
use Rattle.snap_equal.proofs.tally.nonzero.Given as goal

abbrev pub invariant-loop-sum : goal.invariant-loop-sum
invariant-loop-sum l = record {
  kept : All (IsSum l.mixed l.comps l.arrays) l.kept.items;
  total : (k : List ℕ) (q : Place) → total l.kept.items k q ≡ total (take l.sum-index l.sums) k q;
}
