-- What the reading of a program, a topology and a last file that needs both gives.
use Rattle.std.specs.Prelude.{◌≡◌, ◌⊎◌, ◌≤◌, ℕ, List, length, Result, Ok, Err}
use Rattle.snap_core.specs.declared.program.Program.{Program}
use Rattle.snap_io.specs.Files.{Files, file_of}
use Rattle.snap_topology.specs.declared.topology.Topology.{Topology}
use Rattle.snap_topology.specs.Tables.{AreRoutes, Table}
use Rattle.snap_cli.specs.declared.inputs.Inputs.{Inputs}
use Rattle.snap_cli.specs.declared.refusal.Refusal.{Refusal}
use Rattle.snap_cli.specs.ProgramOf.{ProgramOf}
use Rattle.snap_cli.specs.Reached.{IsReached}
use Rattle.snap_cli.specs.Routes.{HasNoRoutes}
use Rattle.snap_cli.specs.Texts.{IsTooLong, RefusesBy}
use Rattle.snap_cli.specs.TopologyOf.{TopologyOf}

-- the files spell this program and this topology, whose routes these are, and the last has this text
pub record AreInputs (files : Files) (program topology last : List ℕ) (inputs : Inputs) : Type 0 where
  pub the_program : ProgramOf (file_of files program) (Ok inputs.program)
  pub the_topology : TopologyOf (file_of files topology) (Ok inputs.network.topology)
  pub the_routes : AreRoutes inputs.network.topology inputs.network.routes
  pub the_text : inputs.text.items ≡ file_of files last
  pub short : length (file_of files last) ≤ 1048576

-- no program was read, or one was, but no topology with routes, or both were, and the last file is refused for one of `why`
abbrev pub IsStopped : (why : Program → Topology → Table → Refusal → Type 0) → Files → (program topology : List ℕ) → Refusal → Type 0
IsStopped why files program topology refusal =
    ProgramOf (file_of files program) (Err refusal)
    ⊎ ((p : Program) × ProgramOf (file_of files program) (Ok p)
    × (HasNoRoutes (file_of files topology) refusal
    ⊎ ((t : Topology) × (table : Table) × TopologyOf (file_of files topology) (Ok t) × AreRoutes t table × why p t table refusal)))

-- here it is refused only where it is too long
abbrev pub GivesInputs : Files → (program topology last : List ℕ) → Result Inputs Refusal → Type 0
GivesInputs files program topology last (Ok inputs) = AreInputs files program topology last inputs
GivesInputs files program topology last (Err e) =
    RefusesBy (IsReached files program topology last)
    (IsStopped (λ p t table. IsTooLong 1048576 (file_of files last)) files program topology) e
