use Rattle.std.proofs.Common.{◌≡◌, ◌≤◌, ◌*◌, take}
use Rattle.std.specs.List.{sum_by}
use Rattle.snap_placement.proofs.Costing.{weight_of}
use Rattle.snap_placement.proofs.trips.total_weight.Given as goal

-- the weight so far, each at most 4294967295
abbrev pub invariant-loop-trip : goal.invariant-loop-trip
invariant-loop-trip l = record {
  low : l.total ≤ l.trip-index * 4294967295;
  all : l.total ≡ sum_by weight_of (take l.trip-index l.trips);
}
