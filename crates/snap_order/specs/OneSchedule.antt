-- The run in order that a schedule's lines tell is one.
use Rattle.std.specs.Prelude.{◌≡◌, ℕ, Bool, List, Result}
use Rattle.std.specs.declared.option.Option.{Option}
use Rattle.snap_rows.specs.declared.tables.Tables.{Tables}
use Rattle.snap_rows.specs.Form.{IsWellFormed}
use Rattle.snap_runs.specs.declared.schedule.ScheduleFault.{ScheduleFault}
use Rattle.snap_runs.specs.Schedules.{TellsOfLine}
use Rattle.snap_order.specs.Runs.{IsScheduleReport, RefusesLine, RefusesScheduleLine, WritesSchedule}

-- lines tell one report, or are refused at one line, and not both
abbrev pub ScheduleReportsAreOne : Type 0
ScheduleReportsAreOne = (t : Tables) → IsWellFormed t → (hops : Bool) (ks lines : List (List ℕ)) (a b : List ℕ)
    → IsScheduleReport t hops ks lines a → IsScheduleReport t hops ks lines b → a ≡ b

abbrev pub RefusedLinesAreOne : Type 0
RefusedLinesAreOne = (t : Tables) → IsWellFormed t → (ks lines : List (List ℕ)) (a b : ℕ)
    → RefusesLine t ks lines a → RefusesLine t ks lines b → a ≡ b

abbrev pub ReportedOrRefused : Type 0
ReportedOrRefused = (t : Tables) → IsWellFormed t → (hops : Bool) (ks lines : List (List ℕ)) (text : List ℕ) (number : ℕ)
    → IsScheduleReport t hops ks lines text → RefusesLine t ks lines number → ⊥

-- and a call that writes the report of a schedule tells of the line that is refused, and of no other
abbrev pub RefusedLinesAreTold : Type 0
RefusedLinesAreTold = (t : Tables) → IsWellFormed t → (hops : Bool) (file schedule : List ℕ)
    (result : Result (Unit {0}) ScheduleFault) (old new : Option (List ℕ)) → WritesSchedule t hops file schedule result old new
    → (number : ℕ) → RefusesScheduleLine t file schedule number → TellsOfLine result number
