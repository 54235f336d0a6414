use Rattle.std.proofs.Common.{◌≡◌, ◌*◌, ℕ}
use Rattle.std.specs.List.{sum_by}
use Rattle.snap_placement.specs.declared.trips.Trip.{Trip}
use Rattle.snap_placement.specs.Steps.{end_of, leg}
use Rattle.snap_placement.proofs.Filling.{Fills}
use Rattle.snap_placement.proofs.price.end_costs.Given as goal

-- the costs of the switches so far
abbrev pub invariant-loop-switch : goal.invariant-loop-switch
invariant-loop-switch l = Fills (λ (at cost : ℕ). cost ≡ sum_by (λ (t : Trip). t.weight * leg l.routes l.end (end_of l.end t) at) l.trips) l.switch l.costs.items
