-- What the reading of a topology with its routes gives, from what its steps did.
use Rattle.std.proofs.Common.{ℕ, List, Ok, Err, refl}
use Rattle.snap_topology.specs.declared.table.RouteFault.{RouteFault}
use Rattle.snap_topology.specs.declared.table.RouteFault.TheVariants as route
use Rattle.snap_topology.specs.Faults.{IsCause}
use Rattle.snap_cli.specs.NetworkSteps.{GivesNetwork}
use Rattle.snap_cli.specs.RoutesSteps.{refusal_of_routes}
use Rattle.snap_cli.proofs.Shared.{IsUnreachable, Topology, TopologyOf}

pub network-fault : (name file : List ℕ) (t : Topology) (fault : RouteFault) → TopologyOf file (Ok t) → IsCause (IsUnreachable t) fault → GivesNetwork name file (Err (refusal_of_routes t.switches fault))
network-fault name file t (route.Unreachable a b) read h = (t, read, h, refl)
network-fault name file t route.NoMemory read h = tt
