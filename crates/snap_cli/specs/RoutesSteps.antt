-- What a step of `routes` gives.
use Rattle.std.specs.Prelude.{◌≡◌, ◌⊎◌, ℕ, List, [], Result, Ok, Err}
use Rattle.std.specs.declared.option.Option.{Option}
use Rattle.std.specs.Io.KnownBytes.{Appends}
use Rattle.snap_io.specs.Sinks.{AppendsPart}
use Rattle.snap_topology.specs.declared.topology.Topology.{Topology}
use Rattle.snap_topology.specs.declared.topology.TopoFault.{TopoFault}
use Rattle.snap_topology.specs.declared.topology.TopoFault.TheVariants as topo
use Rattle.snap_topology.specs.declared.table.RouteFault.{RouteFault}
use Rattle.snap_topology.specs.declared.table.RouteFault.TheVariants as route
use Rattle.snap_topology.specs.Tables.{Table, AreRoutes, IsUnreachable}
use Rattle.snap_cli.specs.declared.refusal.Refusal.{Refusal}
use Rattle.snap_cli.specs.declared.refusal.Refusal.TheVariants as refused
use Rattle.snap_cli.specs.declared.refusal.TopologyFault.TheVariants.{NotToml, Shape, SwitchTwice, UnknownSwitch}
use Rattle.snap_cli.specs.Refusals.{Ending}
use Rattle.snap_cli.specs.Routes.{routes_text}
use Rattle.snap_cli.specs.TopologyOf.{TopologyOf}

-- the topology that the file with this name spells, or why it spells none, or that it can't be read, or memory was short
abbrev pub GivesTopology : (name file : List ℕ) → Result Topology Refusal → Type 0
GivesTopology name file (Err (refused.Read failed)) = failed.now ≡ name
GivesTopology name file (Err (refused.ReadChange failed)) = failed ≡ name
GivesTopology name file (Err refused.NoMemory) = Unit {0}
GivesTopology name file result = TopologyOf file result

-- the refusal of a text that spells no topology
abbrev pub refusal_of_topology : TopoFault → Refusal
refusal_of_topology topo.NotToml = refused.Topology NotToml
refusal_of_topology (topo.Shape rule) = refused.Topology (Shape rule)
refusal_of_topology (topo.Limit which count) = refused.Limit which count
refusal_of_topology (topo.Twice name) = refused.Topology (SwitchTwice name)
refusal_of_topology (topo.Unknown name) = refused.Topology (UnknownSwitch name)
refusal_of_topology topo.NoMemory = refused.NoMemory

-- the refusal of a topology of these switches that has no routes
abbrev pub refusal_of_routes : List (List ℕ) → RouteFault → Refusal
refusal_of_routes switches (route.Unreachable a b) = refused.Unreachable switches a b
refusal_of_routes switches route.NoMemory = refused.NoMemory

-- the whole text went out, or the sink failed or memory was short, and some first bytes did
abbrev pub Writes : List ℕ → Ending → Option (List ℕ) → Option (List ℕ) → Type 0
Writes text (Ok u) old new = Appends old new text
Writes text (Err refused.Write) old new = AppendsPart old new text
Writes text (Err refused.NoMemory) old new = AppendsPart old new text
Writes text (Err refusal) old new = ⊥

-- No walk joins two switches of the topology, and nothing went out.
pub record IsApart (t : Topology) (ending : Ending) (old new : Option (List ℕ)) : Type 0 where
  pub a : ℕ
  pub b : ℕ
  pub unreachable : IsUnreachable t a b
  pub is : ending ≡ Err (refused.Unreachable t.switches a b)
  pub nothing : Appends old new []

-- What was done for a topology that was read: its routes were written, or it has none, or memory was short.
abbrev pub MeetsTopology : Topology → Ending → Option (List ℕ) → Option (List ℕ) → Type 0
MeetsTopology t ending old new =
    ((table : Table) × AreRoutes t table × Writes (routes_text t.switches table) ending old new)
    ⊎ (IsApart t ending old new ⊎ ((ending ≡ Err refused.NoMemory) × Appends old new []))
