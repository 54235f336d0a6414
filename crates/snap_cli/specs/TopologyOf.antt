-- The topology that a file spells, or why it spells none.
use Rattle.std.specs.Prelude.{◌≡◌, ◌⊎◌, ℕ, ◌<◌, ◌≤◌, List, length, Result, Ok, Err}
use Rattle.snap_core.specs.declared.program.Which.TheVariants.{Bytes}
use Rattle.snap_topology.specs.declared.topology.Topology.{Topology}
use Rattle.snap_topology.specs.declared.topology.TopoFault.{TopoFault}
use Rattle.snap_topology.specs.declared.topology.TopoFault.TheVariants as topo
use Rattle.snap_topology.specs.Answer.{IsAnswer}
use Rattle.snap_cli.specs.declared.refusal.Refusal.{Refusal}
use Rattle.snap_cli.specs.declared.refusal.Refusal.TheVariants as refused
use Rattle.snap_cli.specs.declared.refusal.TopologyFault.{TopologyFault}
use Rattle.snap_cli.specs.declared.refusal.TopologyFault.TheVariants.{NotToml, Shape, SwitchTwice, UnknownSwitch}

-- the fault of a document
abbrev pub fault_of : TopologyFault → TopoFault
fault_of NotToml = topo.NotToml
fault_of (Shape rule) = topo.Shape rule
fault_of (SwitchTwice name) = topo.Twice name
fault_of (UnknownSwitch name) = topo.Unknown name

-- the text spells this topology, or it doesn't for this reason
abbrev pub SpellsTopology : List ℕ → Result Topology Refusal → Type 0
SpellsTopology text (Ok t) = IsAnswer text (Ok t)
SpellsTopology text (Err (refused.Topology fault)) = IsAnswer text (Err (fault_of fault))
SpellsTopology text (Err (refused.Limit which count)) = IsAnswer text (Err (topo.Limit which count))
SpellsTopology text (Err refusal) = ⊥

-- A file of more than 1,048,576 bytes is refused, whatever it spells.
abbrev pub TopologyOf : List ℕ → Result Topology Refusal → Type 0
TopologyOf file result =
    ((1048576 < length file) × (result ≡ Err (refused.Limit Bytes 1048577)))
    ⊎ ((length file ≤ 1048576) × SpellsTopology file result)
