use Rattle.std.proofs.Common.{◌≡◌, ◌≤◌, ◌*◌, take}
use Rattle.std.specs.List.{sum_by}
use Rattle.snap_topology.specs.Tables.{distance_of}
use Rattle.snap_placement.specs.declared.trips.Trip.{Trip}
use Rattle.snap_placement.proofs.price.direct_cost.Given as goal

-- the cost so far, each below 2^40
abbrev pub invariant-loop-trip : goal.invariant-loop-trip
invariant-loop-trip l = record {
  low : l.cost ≤ l.trip-index * (4294967295 * 255);
  all : l.cost ≡ sum_by (λ (t : Trip). t.weight * distance_of l.routes t.from t.to) (take l.trip-index l.trips);
}
