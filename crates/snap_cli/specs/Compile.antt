-- What `compile` deserves on its files: the text of tables that are faithful to what these spell.
use Rattle.std.specs.Prelude.{◌≡◌, ◌⊎◌, ℕ, Bool, true, false, List, [], Ok, Err}
use Rattle.snap_core.specs.declared.program.Program.{Program}
use Rattle.snap_io.specs.Files.{Files, file_of}
use Rattle.snap_topology.specs.declared.topology.Topology.{Topology}
use Rattle.snap_topology.specs.Tables.{AreRoutes, Table}
use Rattle.snap_rows.specs.declared.tables.Tables.{Tables}
use Rattle.snap_faithful.specs.Faithful.{Faithful}
use Rattle.snap_tables.specs.ReadBack.{IsReadBack}
use Rattle.snap_tables.specs.Text.{text as tables_text}
use Rattle.snap_cli.specs.declared.refusal.Refusal.{Refusal}
use Rattle.snap_cli.specs.Check.{EndsJudged}
use Rattle.snap_cli.specs.PlacementOf.{PlacementOf}
use Rattle.snap_cli.specs.ProgramOf.{ProgramOf}
use Rattle.snap_cli.specs.Refusals.{Ending}
use Rattle.snap_cli.specs.Routes.{HasNoRoutes}
use Rattle.snap_cli.specs.TopologyOf.{TopologyOf}

-- The three files spell this program, this topology, which has routes, and this placement of the program's arrays.
pub record AreSpelled (files : Files) (program topology placement : List ℕ) (p : Program) (t : Topology) (places : List ℕ) : Type 0 where
  pub the_program : ProgramOf (file_of files program) (Ok p)
  pub the_topology : TopologyOf (file_of files topology) (Ok t)
  pub has_routes : (table : Table) × AreRoutes t table
  pub the_placement : PlacementOf p t (file_of files placement) (Ok places)

-- the version of the tables that are asked for: 2, in which packets can overlap and be served in order; or with `--on-demand` 1, in which each goes
-- only where its program needs it
abbrev pub version_of : (on_demand : Bool) → ℕ
version_of true = 1
version_of false = 2

-- tables of that version which are faithful
abbrev pub AreMade : Program → Topology → (places : List ℕ) → (on_demand : Bool) → Tables → Type 0
AreMade p t places on_demand tables = Faithful p t places tables × (tables.version ≡ version_of on_demand)

-- **the tables are of that version, and faithful to the program, the topology and the placement that the files spell**
abbrev pub AreTables : Files → (program topology placement : List ℕ) → (on_demand : Bool) → Tables → Type 0
AreTables files program topology placement on_demand tables =
    (p : Program) × (t : Topology) × (places : List ℕ)
    × AreSpelled files program topology placement p t places × AreMade p t places on_demand tables

-- the text of such tables, of which these are read
abbrev pub IsCompiled : Files → (program topology placement : List ℕ) → (on_demand : Bool) → List ℕ → Type 0
IsCompiled files program topology placement on_demand text = (tables : Tables)
    × AreTables files program topology placement on_demand tables × IsReadBack tables × (text ≡ tables_text tables)

-- a topology was read, but no placement; or one was, and the program races, as is told
abbrev pub HasNoTablesFor : Program → Topology → (file : List ℕ) → Refusal → Type 0
HasNoTablesFor p t file refusal =
    PlacementOf p t file (Err refusal)
    ⊎ ((places : List ℕ) × PlacementOf p t file (Ok places) × EndsJudged p (Err refusal))

-- a program was read, but nothing behind it that will do, or not even a topology with routes
abbrev pub HasNoTablesOn : Files → Program → (topology placement : List ℕ) → Refusal → Type 0
HasNoTablesOn files p topology placement refusal =
    HasNoRoutes (file_of files topology) refusal
    ⊎ ((t : Topology) × (table : Table) × TopologyOf (file_of files topology) (Ok t)
    × AreRoutes t table × HasNoTablesFor p t (file_of files placement) refusal)

-- the same, or not even a program was read
abbrev pub HasNoTables : Files → (program topology placement : List ℕ) → Refusal → Type 0
HasNoTables files program topology placement refusal =
    ProgramOf (file_of files program) (Err refusal)
    ⊎ ((p : Program) × ProgramOf (file_of files program) (Ok p) × HasNoTablesOn files p topology placement refusal)

-- how the command ends where no device fails and memory is there
abbrev pub EndsCompile : Files → (program topology placement : List ℕ) → (on_demand : Bool) → Ending → Type 0
EndsCompile files program topology placement on_demand (Ok u) = (text : List ℕ) × IsCompiled files program topology placement on_demand text
EndsCompile files program topology placement on_demand (Err refusal) = HasNoTables files program topology placement refusal

-- the text that has gone out then: nothing where there are no tables
abbrev pub IsCompileText : Files → (program topology placement : List ℕ) → (on_demand : Bool) → List ℕ → Type 0
IsCompileText files program topology placement on_demand text =
    ((refusal : Refusal) × HasNoTables files program topology placement refusal × (text ≡ []))
    ⊎ IsCompiled files program topology placement on_demand text

-- of this text some first bytes may have gone out where memory is short
abbrev pub MayPrecedeCompile : Files → (program topology placement : List ℕ) → (on_demand : Bool) → List ℕ → Type 0
MayPrecedeCompile files program topology placement on_demand text = (text ≡ []) ⊎ IsCompiled files program topology placement on_demand text
