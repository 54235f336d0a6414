use Rattle.snap_topology.proofs.Nearest.{HopsUpTo}
use Rattle.snap_topology.proofs.hops.hops_toward.Given as goal

-- the switches so far have their hops
abbrev pub invariant-loop-at : goal.invariant-loop-at
invariant-loop-at l = HopsUpTo l.graph l.target l.distances l.hops.items l.at
