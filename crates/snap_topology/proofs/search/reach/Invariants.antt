use Rattle.std.proofs.Common.{take}
use Rattle.snap_topology.specs.Search.{Reaches}
use Rattle.snap_topology.proofs.search.reach.Given as goal

-- what the switches so far reach
abbrev pub invariant-loop-switch : goal.invariant-loop-switch
invariant-loop-switch l = Reaches (take l.switch-index l.switches) l.distance l.fn.distances l.distances l.fn.level.items l.level.items
