-- The placement that a file spells, or why it spells none.
use Rattle.std.specs.Prelude.{◌≡◌, ◌⊎◌, ℕ, ◌<◌, ◌≤◌, List, length, Result, Ok, Err}
use Rattle.snap_core.specs.declared.program.Program.{Program}
use Rattle.snap_core.specs.declared.program.Which.TheVariants.{Bytes}
use Rattle.snap_topology.specs.declared.topology.Topology.{Topology}
use Rattle.snap_placement.specs.declared.placement.PlaceFault.{PlaceFault}
use Rattle.snap_placement.specs.declared.placement.PlaceFault.TheVariants as place
use Rattle.snap_placement.specs.Answer.{IsAnswer}
use Rattle.snap_cli.specs.declared.refusal.NoPlacement.TheVariants.{NotToml, Shape, NoArray, NoPlace, NoSwitch, Apart}
use Rattle.snap_cli.specs.declared.refusal.Refusal.{Refusal}
use Rattle.snap_cli.specs.declared.refusal.Refusal.TheVariants as refused

-- the refusal of a text that spells no placement of these arrays
abbrev pub refusal_of_placement : (arrays : List (List ℕ)) → PlaceFault → Refusal
refusal_of_placement arrays place.NotToml = refused.Placement NotToml
refusal_of_placement arrays (place.Shape rule) = refused.Placement (Shape rule)
refusal_of_placement arrays (place.NoVariable name) = refused.Placement (NoArray name)
refusal_of_placement arrays (place.Missing array) = refused.Placement (NoPlace arrays array)
refusal_of_placement arrays (place.NoSwitch array) = refused.Placement (NoSwitch arrays array)
refusal_of_placement arrays (place.Apart a b) = refused.Placement (Apart arrays a b)
refusal_of_placement arrays place.NoMemory = refused.NoMemory

-- the text spells this placement of the program's arrays at switches of the topology, or it doesn't for this reason
abbrev pub SpellsPlacement : Program → Topology → List ℕ → Result (List ℕ) Refusal → Type 0
SpellsPlacement p t text (Ok places) = IsAnswer p t text (Ok places)
SpellsPlacement p t text (Err refusal) = (fault : PlaceFault)
    × IsAnswer p t text (Err fault) × (refusal ≡ refusal_of_placement p.arrays fault)

-- A file of more than 1,048,576 bytes is refused, whatever it spells.
abbrev pub PlacementOf : Program → Topology → (file : List ℕ) → Result (List ℕ) Refusal → Type 0
PlacementOf p t file result =
    ((1048576 < length file) × (result ≡ Err (refused.Limit Bytes 1048577)))
    ⊎ ((length file ≤ 1048576) × SpellsPlacement p t file result)
