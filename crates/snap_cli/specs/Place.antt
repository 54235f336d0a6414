-- What `place` deserves on its files.
use Rattle.std.specs.Prelude.{◌≡◌, ◌≢◌, ◌⊎◌, ◌<◌, ◌≤◌, ℕ, List, [], length, Ok, Err}
use Rattle.snap_core.specs.declared.program.Program.{Program}
use Rattle.snap_core.specs.declared.program.Which.TheVariants.{Bytes}
use Rattle.snap_dep.specs.Ranks.{Grouping, IsGrouping}
use Rattle.snap_io.specs.Files.{Files, file_of}
use Rattle.snap_topology.specs.declared.topology.Topology.{Topology}
use Rattle.snap_topology.specs.Form.{IsWellFormed}
use Rattle.snap_topology.specs.Tables.{AreRoutes, Table}
use Rattle.snap_placement.specs.Printed.{placement_text}
use Rattle.snap_placement.specs.declared.best.Best.{Best}
use Rattle.snap_placement.specs.declared.demand.Demand.{Demand}
use Rattle.snap_placement.specs.declared.demand.DemandFault.{DemandFault}
use Rattle.snap_placement.specs.declared.demand.DemandFault.TheVariants as seek
use Rattle.snap_placement.specs.DemandAnswer.{IsAnswer}
use Rattle.snap_placement.specs.Placements.{IsBestOf}
use Rattle.snap_cli.specs.declared.refusal.NoDemand.TheVariants.{NotToml, Shape, NoPort, NoArray, NoSwitch, Nowhere}
use Rattle.snap_cli.specs.declared.refusal.Refusal.{Refusal}
use Rattle.snap_cli.specs.declared.refusal.Refusal.TheVariants as refused
use Rattle.snap_cli.specs.ProgramOf.{ProgramOf}
use Rattle.snap_cli.specs.Refusals.{Ending}
use Rattle.snap_cli.specs.Routes.{HasNoRoutes}
use Rattle.snap_cli.specs.TopologyOf.{TopologyOf}

-- the text is that of the placement of least cost for this demand
abbrev pub IsBestText : Program → Grouping → Topology → Table → Demand → List ℕ → Type 0
IsBestText p groups t table demand text = (best : Best)
    × IsBestOf groups t table demand best × (text ≡ placement_text p.arrays t.switches best.owners best.cost)

-- The text of the placement of least cost, for a topology in form and the demand that a file of at most 1,048,576 bytes spells.
pub record IsPlacementOf (p : Program) (t : Topology) (table : Table) (file text : List ℕ) : Type 0 where
  pub short : length file ≤ 1048576
  pub form : IsWellFormed t
  pub grouping : Grouping
  pub groups : IsGrouping p.body (length p.arrays) grouping
  pub demand : Demand
  pub spells : IsAnswer p grouping t file (Ok demand)
  pub best : Best
  pub is_best : IsBestOf grouping t table demand best
  pub is : text ≡ placement_text p.arrays t.switches best.owners best.cost

-- the refusal of a text that spells no demand of a program with these arrays
abbrev pub refusal_of_demand : List (List ℕ) → DemandFault → Refusal
refusal_of_demand arrays seek.NotToml = refused.Demand NotToml
refusal_of_demand arrays (seek.Shape rule) = refused.Demand (Shape rule)
refusal_of_demand arrays (seek.Limit which count) = refused.Limit which count
refusal_of_demand arrays (seek.NoPort port) = refused.Demand (NoPort port)
refusal_of_demand arrays (seek.NoVariable name) = refused.Demand (NoArray name)
refusal_of_demand arrays (seek.NoSwitch name) = refused.Demand (NoSwitch name)
refusal_of_demand arrays (seek.Nowhere array) = refused.Demand (Nowhere arrays array)
refusal_of_demand arrays seek.NoMemory = refused.NoMemory

-- the text spells no demand for this reason
pub record SpellsNoDemand (p : Program) (t : Topology) (text : List ℕ) (refusal : Refusal) : Type 0 where
  pub grouping : Grouping
  pub groups : IsGrouping p.body (length p.arrays) grouping
  pub fault : DemandFault
  pub known : fault ≢ seek.NoMemory
  pub answer : IsAnswer p grouping t text (Err fault)
  pub is : refusal ≡ refusal_of_demand p.arrays fault

-- the file spells none, or is too long
abbrev pub HasNoDemand : Program → Topology → (file : List ℕ) → Refusal → Type 0
HasNoDemand p t file refusal =
    ((1048576 < length file) × (refusal ≡ refused.Limit Bytes 1048577))
    ⊎ ((length file ≤ 1048576) × SpellsNoDemand p t file refusal)

-- a topology was read, but no demand, or not even a topology with routes
abbrev pub HasNoPlacementOn : Files → Program → (topology demand : List ℕ) → Refusal → Type 0
HasNoPlacementOn files p topology demand refusal =
    HasNoRoutes (file_of files topology) refusal
    ⊎ ((t : Topology) × (table : Table) × TopologyOf (file_of files topology) (Ok t)
    × AreRoutes t table × HasNoDemand p t (file_of files demand) refusal)

-- a program was read, but nothing behind it, or not even a program
abbrev pub HasNoPlacement : Files → (program topology demand : List ℕ) → Refusal → Type 0
HasNoPlacement files program topology demand refusal =
    ProgramOf (file_of files program) (Err refusal)
    ⊎ ((p : Program) × ProgramOf (file_of files program) (Ok p) × HasNoPlacementOn files p topology demand refusal)

-- the files spell a topology with routes and a demand, for which this is the text of the best placement
abbrev pub IsPlacedOn : Files → Program → (topology demand : List ℕ) → List ℕ → Type 0
IsPlacedOn files p topology demand text =
    (t : Topology) × (table : Table) × TopologyOf (file_of files topology) (Ok t)
    × AreRoutes t table × IsPlacementOf p t table (file_of files demand) text

abbrev pub IsPlaced : Files → (program topology demand : List ℕ) → List ℕ → Type 0
IsPlaced files program topology demand text = (p : Program)
    × ProgramOf (file_of files program) (Ok p) × IsPlacedOn files p topology demand text

-- how the command ends where no device fails and memory is there
abbrev pub EndsPlace : Files → (program topology demand : List ℕ) → Ending → Type 0
EndsPlace files program topology demand (Ok u) = (text : List ℕ) × IsPlaced files program topology demand text
EndsPlace files program topology demand (Err refusal) = HasNoPlacement files program topology demand refusal

-- the text that has gone out then: nothing where there is no placement
abbrev pub IsPlaceText : Files → (program topology demand : List ℕ) → List ℕ → Type 0
IsPlaceText files program topology demand text =
    ((refusal : Refusal) × HasNoPlacement files program topology demand refusal × (text ≡ []))
    ⊎ IsPlaced files program topology demand text
