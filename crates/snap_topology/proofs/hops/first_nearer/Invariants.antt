use Rattle.snap_topology.proofs.Nearest.{NoneBefore}
use Rattle.snap_topology.proofs.hops.first_nearer.Given as goal

-- none of the switches so far is nearer
abbrev pub invariant-loop-switch : goal.invariant-loop-switch
invariant-loop-switch l = NoneBefore l.switches l.distances l.distance l.switch-index
