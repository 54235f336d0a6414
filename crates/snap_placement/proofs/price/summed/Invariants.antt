use Rattle.std.proofs.Common.{◌≡◌, ◌≤◌, ◌*◌, ℕ, length, take}
use Rattle.std.specs.List.{All, sum_by}
use Rattle.snap_placement.specs.declared.trips.Trip.{Trip}
use Rattle.snap_placement.specs.Steps.{end_of, weighed}
use Rattle.snap_placement.proofs.price.summed.Given as goal

-- the weights so far
abbrev pub invariant-loop-trip : goal.invariant-loop-trip
invariant-loop-trip l = record {
  count : length l.sums.items ≡ l.count;
  low : All (λ w. w ≤ l.trip-index * 4294967295) l.sums.items;
  sums : (f : ℕ → ℕ) → weighed f 0 l.sums.items ≡ sum_by (λ (t : Trip). t.weight * f (end_of l.end t)) (take l.trip-index l.trips);
}
