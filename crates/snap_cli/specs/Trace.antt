-- What `trace` deserves on its files: the report of the network that runs the tables.
use Rattle.std.specs.Prelude.{◌≡◌, ◌⊎◌, ℕ, Bool, List, [], Ok, Err}
use Rattle.snap_io.specs.Files.{Files, file_of}
use Rattle.snap_rows.specs.declared.tables.Tables.{Tables}
use Rattle.snap_report.specs.OneSwitch.{RunEnding}
use Rattle.snap_runs.specs.Plain.{AreTraceBlocks, HasTrace, IsTrace}
use Rattle.snap_words.specs.Commands.{Order, plain, schedule, changes, in_order, rounds}
use Rattle.snap_cli.specs.declared.refusal.Refusal.{Refusal}
use Rattle.snap_cli.specs.Changes.{AreBlocksOfChanges, ChangesTo, IsChangesText, IsReachedByChanges}
use Rattle.snap_cli.specs.InOrder.{IsInOrderText, MayPrecedeReadTurns, MayPrecedeTurns, RunsInOrderTo}
use Rattle.snap_cli.specs.Obs.{IsRunEnding}
use Rattle.snap_cli.specs.Refusals.{Ending}
use Rattle.snap_cli.specs.Rounds.{RunsByRoundsTo}
use Rattle.snap_cli.specs.Schedule.{IsOfSchedule, SchedulesTo}
use Rattle.snap_cli.specs.TablesOf.{TablesOf}

-- ---- runs of tables
-- how the plain run of the network with these tables over a file ends, and its report
abbrev pub TracesTo : Tables → (hops : Bool) → (file : List ℕ) → Ending → List ℕ → Type 0
TracesTo t hops file ending text = (run : RunEnding) × IsTrace t hops file run text × IsRunEnding run ending

-- the same of a run in this order
abbrev pub NetworkRunsTo : Files → Tables → (packets : List ℕ) → (hops : Bool) → Order → Ending → List ℕ → Type 0
NetworkRunsTo files t packets hops plain ending text = TracesTo t hops (file_of files packets) ending text
NetworkRunsTo files t packets hops (schedule lines) ending text = SchedulesTo t hops
    (file_of files packets) (file_of files lines) ending text
NetworkRunsTo files t packets hops (changes lines) ending text = ChangesTo files t packets hops lines ending text
NetworkRunsTo files t packets hops (in_order lines) ending text = RunsInOrderTo files t packets hops lines ending text
NetworkRunsTo files t packets hops (rounds workers) ending text = RunsByRoundsTo files t packets hops ending text

-- its report
abbrev pub IsRunText : Files → Tables → (packets : List ℕ) → (hops : Bool) → Order → List ℕ → Type 0
IsRunText files t packets hops plain text = HasTrace t hops (file_of files packets) text
IsRunText files t packets hops (schedule lines) text = (ending : Ending)
    × SchedulesTo t hops (file_of files packets) (file_of files lines) ending text
IsRunText files t packets hops (changes lines) text = IsChangesText files t packets hops lines text
IsRunText files t packets hops (in_order lines) text = IsInOrderText files t packets hops lines text
IsRunText files t packets hops (rounds workers) text = (ending : Ending) × RunsByRoundsTo files t packets hops ending text

-- what may have gone out before it ends: some first blocks, where packets run one after another
abbrev pub MayPrecedeRun : Files → Tables → (packets : List ℕ) → (hops : Bool) → Order → List ℕ → Type 0
MayPrecedeRun files t packets hops plain text = AreTraceBlocks t hops (file_of files packets) text
MayPrecedeRun files t packets hops (schedule lines) text = text ≡ []
MayPrecedeRun files t packets hops (changes lines) text = (text ≡ []) ⊎ AreBlocksOfChanges files t packets hops lines text
MayPrecedeRun files t packets hops (in_order lines) text = (t.version ≡ 2) × MayPrecedeTurns files t packets hops lines text
MayPrecedeRun files t packets hops (rounds workers) text = text ≡ []

-- what may have gone out where the run can't read the file with this name: the packets, the schedule once these are read, or a
-- file of the changes before any packet; with `--ordered`, where the tables are of version 2
abbrev pub MayPrecedeReadRun : Files → Tables → (packets : List ℕ) → (hops : Bool) → Order → (name : List ℕ) → List ℕ → Type 0
MayPrecedeReadRun files t packets hops plain name text = (name ≡ packets) × AreTraceBlocks t hops (file_of files packets) text
MayPrecedeReadRun files t packets hops (schedule lines) name text = IsOfSchedule t (file_of files packets) packets lines name × (text ≡ [])
MayPrecedeReadRun files t packets hops (changes lines) name text =
    (IsReachedByChanges files t lines name × (text ≡ [])) ⊎ ((name ≡ packets) × AreBlocksOfChanges files t packets hops lines text)
MayPrecedeReadRun files t packets hops (in_order lines) name text = (t.version ≡ 2)
    × MayPrecedeReadTurns files t packets hops lines name text
MayPrecedeReadRun files t packets hops (rounds workers) name text = (t.version ≡ 2) × (name ≡ packets) × (text ≡ [])

-- ---- the command
-- how the command ends where no device fails and memory is there
abbrev pub EndsTrace : Files → (tables packets : List ℕ) → (hops : Bool) → Order → Ending → Type 0
EndsTrace files tables packets hops order ending =
    ((refusal : Refusal) × TablesOf (file_of files tables) (Err refusal) × (ending ≡ Err refusal))
    ⊎ ((t : Tables) × TablesOf (file_of files tables) (Ok t) × ((text : List ℕ) × NetworkRunsTo files t packets hops order ending text))

-- the text that has gone out then: nothing before the tables are read, and the report of the network
abbrev pub IsTraceText : Files → (tables packets : List ℕ) → (hops : Bool) → Order → List ℕ → Type 0
IsTraceText files tables packets hops order text =
    ((refusal : Refusal) × TablesOf (file_of files tables) (Err refusal) × (text ≡ []))
    ⊎ ((t : Tables) × TablesOf (file_of files tables) (Ok t) × IsRunText files t packets hops order text)

-- of this text some first bytes may have gone out where memory is short
abbrev pub MayPrecedeTrace : Files → (tables packets : List ℕ) → (hops : Bool) → Order → List ℕ → Type 0
MayPrecedeTrace files tables packets hops order text =
    (text ≡ []) ⊎ ((t : Tables) × TablesOf (file_of files tables) (Ok t) × MayPrecedeRun files t packets hops order text)

-- of this text some first bytes may have gone out where the file with this name can't be read: nothing before the tables
-- are read, and then what may precede the end of their run
abbrev pub MayPrecedeReadTrace : Files → (tables packets : List ℕ) → (hops : Bool) → Order → (name : List ℕ) → List ℕ → Type 0
MayPrecedeReadTrace files tables packets hops order name text =
    ((name ≡ tables) × (text ≡ []))
    ⊎ ((t : Tables) × TablesOf (file_of files tables) (Ok t) × MayPrecedeReadRun files t packets hops order name text)
