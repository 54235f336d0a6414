-- How the run of a schedule over a packets file ends, and what is written.
use Rattle.std.specs.Prelude.{◌≡◌, ◌⊎◌, ℕ, ◌<◌, Bool, List, [], length, Ok, Err}
use Rattle.snap_core.specs.declared.program.Which.TheVariants.{Bytes}
use Rattle.snap_rows.specs.declared.tables.Tables.{Tables}
use Rattle.snap_report.specs.declared.fault.TraceFault.{TraceFault}
use Rattle.snap_report.specs.Spelled.{refused}
use Rattle.snap_runs.specs.Plain.{spelled_for}
use Rattle.snap_runs.specs.Schedules.{HasScheduleReport, IsReadWhole, RefusesScheduleLine}
use Rattle.snap_cli.specs.declared.refusal.Refusal.TheVariants.{Limit, Schedule}
use Rattle.snap_cli.specs.Obs.{IsRunEnding}
use Rattle.snap_cli.specs.Refusals.{Ending}

-- a line of the packets file is refused, or it has too much
abbrev pub StopsAtPackets : Tables → (file : List ℕ) → Ending → Type 0
StopsAtPackets t file ending = (fault : TraceFault) × ((spelled_for t file).stop ≡ refused fault) × IsRunEnding (Err fault) ending

-- the schedule has too many bytes
abbrev pub StopsAtLength : Tables → (file schedule : List ℕ) → Ending → Type 0
StopsAtLength t file schedule ending = IsReadWhole t file × (67108864 < length schedule) × (ending ≡ Err (Limit Bytes 67108865))

-- a line of the schedule isn't in form or can't be done, or it ends too early
abbrev pub StopsAtLine : (Refuses : ℕ → Type 0) → Ending → Type 0
StopsAtLine Refuses ending = (line : ℕ) × Refuses line × (ending ≡ Err (Schedule line))

-- A report goes out, or nothing where one of the files is refused. The packets file comes first.
abbrev pub EndsBySchedule : Tables → (file schedule : List ℕ)
    → (Reports : List ℕ → Type 0) → (Refuses : ℕ → Type 0) → Ending → List ℕ → Type 0
EndsBySchedule t file schedule Reports Refuses ending text =
    ((ending ≡ Ok tt) × Reports text)
    ⊎ ((text ≡ []) × (StopsAtPackets t file ending ⊎ (StopsAtLength t file schedule ending ⊎ StopsAtLine Refuses ending)))

-- it is that of exactly the events that the schedule orders
abbrev pub SchedulesTo : Tables → (hops : Bool) → (file schedule : List ℕ) → Ending → List ℕ → Type 0
SchedulesTo t hops file schedule ending text = EndsBySchedule t file schedule
    (HasScheduleReport t hops file schedule) (RefusesScheduleLine t file schedule) ending text

-- the packets file, or the schedule once that was read
abbrev pub IsOfSchedule : Tables → (file packets lines name : List ℕ) → Type 0
IsOfSchedule t file packets lines name = (name ≡ packets) ⊎ ((name ≡ lines) × IsReadWhole t file)
