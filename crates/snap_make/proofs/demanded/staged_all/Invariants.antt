-- The bodies so far.
use Rattle.std.proofs.Common.{◌≡◌, map, take}
use Rattle.snap_faithful.specs.OnDemand.{place_of, staged}
use Rattle.snap_make.proofs.demanded.staged_all.Given as goal

abbrev pub invariant-loop-node : goal.invariant-loop-node
invariant-loop-node l = l.bodies.items ≡ map (staged (place_of l.tables)) (take l.node-index l.nodes)
