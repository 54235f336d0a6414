-- Which of three files a command has come to: a program, a topology, and a last one that needs both.
use Rattle.std.specs.Prelude.{◌≡◌, ◌⊎◌, ℕ, List, Ok}
use Rattle.snap_core.specs.declared.program.Program.{Program}
use Rattle.snap_io.specs.Files.{Files, file_of}
use Rattle.snap_topology.specs.declared.topology.Topology.{Topology}
use Rattle.snap_topology.specs.Tables.{AreRoutes, Table}
use Rattle.snap_cli.specs.ProgramOf.{ProgramOf}
use Rattle.snap_cli.specs.TopologyOf.{TopologyOf}

-- the topology's file has this name, or the last one, where the topology's spells one with routes
abbrev pub IsReachedOn : Files → (topology last name : List ℕ) → Type 0
IsReachedOn files topology last name =
    (name ≡ topology)
    ⊎ ((name ≡ last) × ((t : Topology) × (table : Table) × TopologyOf (file_of files topology) (Ok t) × AreRoutes t table))

-- the program's file has this name, or one of those, where the program's spells one
abbrev pub IsReached : Files → (program topology last name : List ℕ) → Type 0
IsReached files program topology last name =
    (name ≡ program)
    ⊎ (((p : Program) × ProgramOf (file_of files program) (Ok p)) × IsReachedOn files topology last name)
