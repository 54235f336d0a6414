-- What a step of `compile` gives.
use Rattle.std.specs.Prelude.{◌⊎◌, ℕ, Bool, List, Result, Ok, Err}
use Rattle.std.specs.declared.option.Option.{Option}
use Rattle.snap_core.specs.declared.program.Program.{Program}
use Rattle.snap_io.specs.Files.{Files}
use Rattle.snap_topology.specs.declared.topology.Topology.{Topology}
use Rattle.snap_rows.specs.declared.tables.Tables.{Tables}
use Rattle.snap_tables.specs.Text.{text as tables_text}
use Rattle.snap_cli.specs.declared.refusal.Refusal.{Refusal}
use Rattle.snap_cli.specs.Check.{EndsJudged}
use Rattle.snap_cli.specs.Compile.{AreMade, AreTables, HasNoTables}
use Rattle.snap_cli.specs.PlacementOf.{SpellsPlacement}
use Rattle.snap_cli.specs.Reached.{IsReached}
use Rattle.snap_cli.specs.Refusals.{Ending}
use Rattle.snap_cli.specs.RoutesSteps.{Writes}
use Rattle.snap_cli.specs.Texts.{RefusesBy}

-- tables of a program on a topology with this placement, or the program races, as is told
abbrev pub MakesTables : Program → Topology → (places : List ℕ) → (on_demand : Bool) → Result Tables Refusal → Type 0
MakesTables p t places on_demand (Ok tables) = AreMade p t places on_demand tables
MakesTables p t places on_demand (Err e) = RefusesBy (λ failed. ⊥) (λ refusal. EndsJudged p (Err refusal)) e

-- the same for the placement that a text spells, or it spells none
abbrev pub Compiles : Program → Topology → (text : List ℕ) → (on_demand : Bool) → Result Tables Refusal → Type 0
Compiles p t text on_demand (Ok tables) = (places : List ℕ) × SpellsPlacement p t text (Ok places) × AreMade p t places on_demand tables
Compiles p t text on_demand (Err e) =
    RefusesBy (λ failed. ⊥)
    (λ refusal. SpellsPlacement p t text (Err refusal)
    ⊎ ((places : List ℕ) × SpellsPlacement p t text (Ok places) × EndsJudged p (Err refusal))) e

-- the same for the files of a program, a topology and a placement
abbrev pub GivesTables : Files → (program topology placement : List ℕ) → (on_demand : Bool) → Result Tables Refusal → Type 0
GivesTables files program topology placement on_demand (Ok tables) = AreTables files program topology placement on_demand tables
GivesTables files program topology placement on_demand (Err e) = RefusesBy
    (IsReached files program topology placement) (HasNoTables files program topology placement) e

-- the whole text of tables went out, or the sink failed or memory was short, and some first bytes did
abbrev pub WritesTables : Tables → Ending → Option (List ℕ) → Option (List ℕ) → Type 0
WritesTables tables ending old new = Writes (tables_text tables) ending old new
