-- What a step of `place` gives.
use Rattle.std.specs.Prelude.{◌≡◌, ℕ, List, length, Result, Ok, Err, Vec}
use Rattle.std.specs.declared.alloc.Global.{Global}
use Rattle.snap_core.specs.declared.program.Program.{Program}
use Rattle.snap_dep.specs.Ranks.{Grouping, IsGrouping}
use Rattle.snap_io.specs.Files.{Files}
use Rattle.snap_topology.specs.declared.topology.Topology.{Topology}
use Rattle.snap_topology.specs.Form.{IsWellFormed}
use Rattle.snap_topology.specs.Tables.{Table}
use Rattle.snap_placement.specs.Printed.{placement_text}
use Rattle.snap_placement.specs.declared.best.Best.{Best}
use Rattle.snap_placement.specs.declared.demand.Demand.{Demand}
use Rattle.snap_placement.specs.DemandAnswer.{IsAnswer}
use Rattle.snap_placement.specs.Placements.{IsBestOf}
use Rattle.snap_cli.specs.declared.refusal.Refusal.{Refusal}
use Rattle.snap_cli.specs.Place.{HasNoPlacement, IsPlaced, SpellsNoDemand}
use Rattle.snap_cli.specs.Reached.{IsReached}
use Rattle.snap_cli.specs.Texts.{RefusesBy}

-- the text of the best placement, for the demand that a text spells
pub record IsPlacement (p : Program) (t : Topology) (table : Table) (text made : List ℕ) : Type 0 where
  pub form : IsWellFormed t
  pub grouping : Grouping
  pub groups : IsGrouping p.body (length p.arrays) grouping
  pub demand : Demand
  pub spells : IsAnswer p grouping t text (Ok demand)
  pub best : Best
  pub is_best : IsBestOf grouping t table demand best
  pub is : made ≡ placement_text p.arrays t.switches best.owners best.cost

abbrev pub Places : Program → Topology → Table → (text : List ℕ) → Result (Vec ℕ Global) Refusal → Type 0
Places p t table text (Ok made) = IsPlacement p t table text made.items
Places p t table text (Err e) = RefusesBy (λ failed. ⊥) (SpellsNoDemand p t text) e

-- the same for the files of a program, a topology and a demand
abbrev pub GivesPlacement : Files → (program topology demand : List ℕ) → Result (Vec ℕ Global) Refusal → Type 0
GivesPlacement files program topology demand (Ok made) = IsPlaced files program topology demand made.items
GivesPlacement files program topology demand (Err e) = RefusesBy
    (IsReached files program topology demand) (HasNoPlacement files program topology demand) e
