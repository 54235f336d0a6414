use Rattle.std.proofs.Common.{◌≡◌, take}
use Rattle.snap_placement.specs.Steps.{cost_over}
use Rattle.snap_placement.proofs.Cheap.{IsBestSo}
use Rattle.snap_placement.proofs.plan.next_from.Given as goal

-- the best of the switches so far, and its cost
abbrev pub invariant-loop-switch : goal.invariant-loop-switch
invariant-loop-switch l = record {
  best : IsBestSo (cost_over l.routes l.total l.onward l.at) l.allowed (take l.switch-index l.allowed) l.best;
  least : l.least ≡ cost_over l.routes l.total l.onward l.at l.best;
}
