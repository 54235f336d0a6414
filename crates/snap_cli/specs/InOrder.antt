-- How a run in which each rank's packets take turns ends, and what is written.
use Rattle.std.specs.Prelude.{◌≡◌, ◌⊎◌, ℕ, Bool, List, [], Some, None, option_map, Err}
use Rattle.std.specs.declared.option.Option.{Option}
use Rattle.snap_io.specs.Files.{Files, file_of}
use Rattle.snap_rows.specs.declared.tables.Tables.{Tables}
use Rattle.snap_report.specs.OneSwitch.{RunEnding}
use Rattle.snap_order.specs.Runs.{AreTraceBlocks, HasScheduleReport, HasTrace, IsTrace, RefusesScheduleLine}
use Rattle.snap_cli.specs.declared.refusal.Refusal.TheVariants.{VersionOne}
use Rattle.snap_cli.specs.Obs.{IsRunEnding}
use Rattle.snap_cli.specs.Refusals.{Ending}
use Rattle.snap_cli.specs.Schedule.{EndsBySchedule, IsOfSchedule}

-- how the run in order over a file ends, and its report: one packet after the other, or exactly the events that a schedule orders
abbrev pub TurnsTo : Tables → (hops : Bool) → (file : List ℕ) → (schedule : Option (List ℕ)) → Ending → List ℕ → Type 0
TurnsTo t hops file None ending text = (run : RunEnding) × IsTrace t hops file run text × IsRunEnding run ending
TurnsTo t hops file (Some schedule) ending text = EndsBySchedule t file schedule
    (HasScheduleReport t hops file schedule) (RefusesScheduleLine t file schedule) ending text

-- its report
abbrev pub IsTurnsText : Tables → (hops : Bool) → (file : List ℕ) → (schedule : Option (List ℕ)) → List ℕ → Type 0
IsTurnsText t hops file None text = HasTrace t hops file text
IsTurnsText t hops file (Some schedule) text = (ending : Ending) × TurnsTo t hops file (Some schedule) ending text

-- Packets take turns in tables of version 2. Those of version 1 are refused before a packet is read.
abbrev pub RunsInOrderTo : Files → Tables → (packets : List ℕ) → (hops : Bool) → (lines : Option (List ℕ)) → Ending → List ℕ → Type 0
RunsInOrderTo files t packets hops lines ending text =
    ((t.version ≡ 1) × (ending ≡ Err VersionOne) × (text ≡ []))
    ⊎ ((t.version ≡ 2) × TurnsTo t hops (file_of files packets) (option_map (file_of files) lines) ending text)

-- the text that has gone out then
abbrev pub IsInOrderText : Files → Tables → (packets : List ℕ) → (hops : Bool) → (lines : Option (List ℕ)) → List ℕ → Type 0
IsInOrderText files t packets hops lines text =
    ((t.version ≡ 1) × (text ≡ []))
    ⊎ ((t.version ≡ 2) × IsTurnsText t hops (file_of files packets) (option_map (file_of files) lines) text)

-- what may have gone out before the run of tables of version 2 ends: some first blocks, where one packet runs after the other
abbrev pub MayPrecedeTurns : Files → Tables → (packets : List ℕ) → (hops : Bool) → (lines : Option (List ℕ)) → List ℕ → Type 0
MayPrecedeTurns files t packets hops None text = AreTraceBlocks t hops (file_of files packets) text
MayPrecedeTurns files t packets hops (Some lines) text = text ≡ []

-- and where it can't read the file with this name: the packets, or the schedule once these are read
abbrev pub MayPrecedeReadTurns : Files → Tables → (packets : List ℕ)
    → (hops : Bool) → (lines : Option (List ℕ)) → (name : List ℕ) → List ℕ → Type 0
MayPrecedeReadTurns files t packets hops None name text = (name ≡ packets) × AreTraceBlocks t hops (file_of files packets) text
MayPrecedeReadTurns files t packets hops (Some lines) name text = IsOfSchedule t (file_of files packets) packets lines name × (text ≡ [])
