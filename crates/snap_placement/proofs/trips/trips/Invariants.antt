use Rattle.std.proofs.Common.{◌≡◌, map, take}
use Rattle.snap_placement.specs.Costs.{trip_of}
use Rattle.snap_placement.proofs.trips.trips.Given as goal

-- the flows so far, between switches
abbrev pub invariant-loop-flow : goal.invariant-loop-flow
invariant-loop-flow l = l.trips.items ≡ map (trip_of l.ports) (take l.flow-index l.flows)
