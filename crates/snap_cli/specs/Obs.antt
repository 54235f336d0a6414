-- What `obs` deserves on its files.
use Rattle.std.specs.Prelude.{◌≡◌, ◌⊎◌, ℕ, List, [], Ok, Err}
use Rattle.std.specs.declared.option.Option.{Option}
use Rattle.std.specs.Io.KnownBytes.{Appends}
use Rattle.snap_core.specs.declared.program.Program.{Program}
use Rattle.snap_io.specs.Files.{Files, file_of}
use Rattle.snap_io.specs.Sinks.{AppendsSome}
use Rattle.snap_report.specs.declared.fault.TraceFault.TheVariants as run
use Rattle.snap_report.specs.OneSwitch.{AreBlocks, HasReport, IsReport, RunEnding}
use Rattle.snap_cli.specs.declared.refusal.Refusal.{Refusal}
use Rattle.snap_cli.specs.declared.refusal.Refusal.TheVariants.{Read, ReadChange, Write, Limit, Packets, NoMemory, Undefined}
use Rattle.snap_cli.specs.ProgramOf.{ProgramOf}
use Rattle.snap_cli.specs.Refusals.{Ending}

-- how a run ends, as an ending of the command. It has no failure of a device among the endings that a file deserves.
abbrev pub IsRunEnding : RunEnding → Ending → Type 0
IsRunEnding (Ok u) ending = ending ≡ Ok tt
IsRunEnding (Err (run.Limit which count)) ending = ending ≡ Err (Limit which count)
IsRunEnding (Err (run.Packets line)) ending = ending ≡ Err (Packets line)
IsRunEnding (Err (run.Undefined packet)) ending = ending ≡ Err (Undefined packet)
IsRunEnding (Err fault) ending = ⊥

-- how the run of a program over a file ends, and its report
abbrev pub RunsTo : Program → (file : List ℕ) → Ending → List ℕ → Type 0
RunsTo p file ending text = (run : RunEnding) × IsReport p file run text × IsRunEnding run ending

-- how the command ends where no device fails and memory is there
abbrev pub EndsObs : Files → (program packets : List ℕ) → Ending → Type 0
EndsObs files program packets ending =
    ((refusal : Refusal) × ProgramOf (file_of files program) (Err refusal) × (ending ≡ Err refusal))
    ⊎ ((p : Program) × ProgramOf (file_of files program) (Ok p) × ((text : List ℕ) × RunsTo p (file_of files packets) ending text))

-- the text that has gone out then: nothing before the program is read, and the report of one big switch
abbrev pub IsObsText : Files → (program packets : List ℕ) → List ℕ → Type 0
IsObsText files program packets text =
    ((refusal : Refusal) × ProgramOf (file_of files program) (Err refusal) × (text ≡ []))
    ⊎ ((p : Program) × ProgramOf (file_of files program) (Ok p) × HasReport p (file_of files packets) text)

-- the blocks of a program that was read, before the packets are all read
abbrev pub AreObsBlocks : Files → (program packets : List ℕ) → List ℕ → Type 0
AreObsBlocks files program packets text = (p : Program)
    × ProgramOf (file_of files program) (Ok p) × AreBlocks p (file_of files packets) text

-- of this text some first bytes may have gone out where memory is short
abbrev pub MayPrecedeObs : Files → (program packets : List ℕ) → List ℕ → Type 0
MayPrecedeObs files program packets text = (text ≡ []) ⊎ AreObsBlocks files program packets text

-- of this text some first bytes may have gone out where the file with this name can't be read: nothing before the program
-- is read, and blocks before the packets are
abbrev pub MayPrecedeReadObs : Files → (program packets name : List ℕ) → List ℕ → Type 0
MayPrecedeReadObs files program packets name text =
    ((name ≡ program) × (text ≡ [])) ⊎ ((name ≡ packets) × AreObsBlocks files program packets text)

-- What the run of a program that was read did, over the packets file with this name: it ended as the file deserves, with
-- its whole report. Or a device failed, that file's reading or the sink, or memory was short, and some first bytes of the
-- blocks went out, or of the report.
abbrev pub MeetsRun : Program → (packets file : List ℕ) → Ending → Option (List ℕ) → Option (List ℕ) → Type 0
MeetsRun p packets file (Err (Read name)) old new = (name.now ≡ packets) × AppendsSome (AreBlocks p file) old new
MeetsRun p packets file (Err (ReadChange name)) old new = ⊥
MeetsRun p packets file (Err NoMemory) old new = AppendsSome (AreBlocks p file) old new
MeetsRun p packets file (Err Write) old new = AppendsSome (AreBlocks p file) old new ⊎ AppendsSome (HasReport p file) old new
MeetsRun p packets file ending old new = (text : List ℕ) × RunsTo p file ending text × Appends old new text
