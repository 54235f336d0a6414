use Rattle.std.proofs.Common.{◌≡◌, ◌++◌, drop}
use Rattle.std.specs.List.{flat_map}
use Rattle.snap_topology.proofs.Joined.{joined}
use Rattle.snap_topology.proofs.graph.neighbours_of.Given as goal

-- the neighbours by the links so far, before those by what is left
abbrev pub invariant-loop-a : goal.invariant-loop-a
invariant-loop-a l = l.switches.items ++ flat_map (joined l.switch) (drop l.a-index l.links) ≡ flat_map (joined l.switch) l.links
