use Rattle.std.proofs.Common.{take}
use Rattle.snap_placement.specs.Steps.{over}
use Rattle.snap_placement.proofs.Cheap.{IsBestSo}
use Rattle.snap_placement.proofs.plan.cheapest.Given as goal

-- the best of the switches so far
abbrev pub invariant-loop-switch : goal.invariant-loop-switch
invariant-loop-switch l = IsBestSo (over l.near l.onward) l.switches (take l.switch-index l.switches) l.best
