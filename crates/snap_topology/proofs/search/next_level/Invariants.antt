use Rattle.std.proofs.Common.{take, []}
use Rattle.std.specs.List.{flat_map}
use Rattle.snap_topology.specs.Graphs.{neighbours_of}
use Rattle.snap_topology.specs.Search.{Reaches}
use Rattle.snap_topology.proofs.search.next_level.Given as goal

-- what the switches of the level so far reach
abbrev pub invariant-loop-switch : goal.invariant-loop-switch
invariant-loop-switch l = Reaches (flat_map (neighbours_of l.graph) (take l.switch-index l.level)) l.distance l.fn.distances l.distances [] l.next.items
