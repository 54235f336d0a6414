-- Runs in order over a packets file: by the plain schedule, and in the order of a schedule's lines.
use Rattle.std.specs.Prelude.{◌≡◌, ◌⊎◌, ℕ, Bool, List, [], length, take, Result}
use Rattle.std.specs.declared.option.Option.{Option}
use Rattle.snap_core.specs.Arrays.{Arrays, zero_arrays}
use Rattle.snap_rows.specs.declared.tables.Tables.{Tables}
use Rattle.snap_rows.specs.Network.{Event, IsPlainRunBy, RunsSequentiallyBy}
use Rattle.snap_report.specs.OneSwitch.{RunEnding}
use Rattle.snap_report.specs.Spelled.{Stop}
use Rattle.snap_runs.specs.declared.schedule.ScheduleFault.{ScheduleFault}
use Rattle.snap_runs.specs.Plain.{EndsAs, Writes, entering, spelled_for}
use Rattle.snap_runs.specs.Schedules.{AreBothRead, EndsEarlyBy, ObeysBy, StopsAtBy, WritesScheduleBy, lines_of}
use Rattle.snap_order.specs.Ordered.{Ordered, OrderedHappening, LeadsInOrder, begin, happenings}
use Rattle.snap_order.specs.Reports.{AreBlocks, IsRunReport}

-- ---- the plain schedule
-- the events lead in order from s to s', and each injection comes with no copy in flight
abbrev pub RunsSequentiallyInOrder : Tables → Ordered → List Event → Ordered → List OrderedHappening → Type 0
RunsSequentiallyInOrder t s es s' us = RunsSequentiallyBy (λ (o : Ordered). o.net) (LeadsInOrder t) s es s' us

-- a run of the plain schedule of these packets: each is injected once the one before has finished, and each step is of the first copy
abbrev pub IsPlainRun : Tables → Arrays → List (ℕ × List ℕ) → List Event → Ordered → List OrderedHappening → Type 0
IsPlainRun t m ks es s us = IsPlainRunBy (λ (o : Ordered). o.net) (LeadsInOrder t) (begin t m) ks es s us

-- from empty arrays the plain run of these packets has this report,
pub record IsPlainReport (t : Tables) (hops : Bool) (ks : List (List ℕ)) (text : List ℕ) : Type 0 where
  pub events : List Event
  pub end : Ordered
  pub turns : List OrderedHappening
  pub run : IsPlainRun t zero_arrays (entering ks) events end turns
  pub report : IsRunReport t hops (length ks) end.net (happenings turns) text

-- and these are its blocks
pub record ArePlainBlocks (t : Tables) (hops : Bool) (ks : List (List ℕ)) (text : List ℕ) : Type 0 where
  pub events : List Event
  pub end : Ordered
  pub turns : List OrderedHappening
  pub run : IsPlainRun t zero_arrays (entering ks) events end turns
  pub blocks : AreBlocks t hops (length ks) (happenings turns) text

-- the run of the packets that were read ends as reading did
abbrev pub EndsAsRead : Tables → (hops : Bool) → List (List ℕ) → Stop → RunEnding → List ℕ → Type 0
EndsAsRead t hops ks stop ending text = EndsAs (ArePlainBlocks t hops) (IsPlainReport t hops) ks stop ending text

-- how a run over a file ends, and what is reported
abbrev pub IsTrace : Tables → (hops : Bool) → (file : List ℕ) → RunEnding → List ℕ → Type 0
IsTrace t hops file ending text = EndsAsRead t hops (spelled_for t file).packets (spelled_for t file).stop ending text

-- the blocks of some first packets that the file spells
abbrev pub AreTraceBlocks : Tables → (hops : Bool) → (file : List ℕ) → List ℕ → Type 0
AreTraceBlocks t hops file text = (count : ℕ) × ArePlainBlocks t hops (take count (spelled_for t file).packets) text

abbrev pub HasTrace : Tables → (hops : Bool) → (file : List ℕ) → List ℕ → Type 0
HasTrace t hops file text = (ending : RunEnding) × IsTrace t hops file ending text

-- the run ended as the file deserves, or a device failed or memory was short
abbrev pub WritesTrace : Tables → (hops : Bool) → (file : List ℕ) → RunEnding → Option (List ℕ) → Option (List ℕ) → Type 0
WritesTrace t hops file ending old new = Writes (AreTraceBlocks t hops file) (IsTrace t hops file) ending old new

-- ---- schedules
-- a run from empty arrays does the events of these lines
abbrev pub Obeys : Tables → (ks lines left : List (List ℕ)) → Ordered → List OrderedHappening → Type 0
Obeys t ks lines left s us = ObeysBy (LeadsInOrder t) (begin t zero_arrays) ks lines left s us

-- the first line that isn't in form or can't be done has this number, counted from 1
abbrev pub StopsAt : Tables → (ks lines : List (List ℕ)) → (number : ℕ) → Type 0
StopsAt t ks lines number = StopsAtBy (λ (o : Ordered). o.net) (LeadsInOrder t) (begin t zero_arrays) ks lines number

-- all lines are done, and a packet or a copy is left: this is the number of the line behind
abbrev pub EndsEarly : Tables → (ks lines : List (List ℕ)) → (number : ℕ) → Type 0
EndsEarly t ks lines number = EndsEarlyBy (λ (o : Ordered). o.net) (LeadsInOrder t) (begin t zero_arrays) ks lines number

-- the line with this number can't be done, or all lines are done too early
abbrev pub RefusesLine : Tables → (ks lines : List (List ℕ)) → (number : ℕ) → Type 0
RefusesLine t ks lines number = StopsAt t ks lines number ⊎ EndsEarly t ks lines number

-- the report of the run that the lines tell, after which nothing is left
pub record IsScheduleReport (t : Tables) (hops : Bool) (ks lines : List (List ℕ)) (text : List ℕ) : Type 0 where
  pub state : Ordered
  pub turns : List OrderedHappening
  pub obeys : Obeys t ks lines [] state turns
  pub ended : state.net.flying ≡ []
  pub report : IsRunReport t hops (length ks) state.net (happenings turns) text

-- the line of a schedule that is refused
abbrev pub RefusesScheduleLine : Tables → (file schedule : List ℕ) → (number : ℕ) → Type 0
RefusesScheduleLine t file schedule number = AreBothRead t file schedule
    × RefusesLine t (spelled_for t file).packets (lines_of schedule) number

-- the report of a packets file and a schedule
abbrev pub HasScheduleReport : Tables → (hops : Bool) → (file schedule : List ℕ) → List ℕ → Type 0
HasScheduleReport t hops file schedule text = AreBothRead t file schedule
    × IsScheduleReport t hops (spelled_for t file).packets (lines_of schedule) text

-- what goes out for a packets file and a schedule
abbrev pub WritesSchedule : Tables → (hops : Bool) → (file schedule : List ℕ)
    → Result (Unit {0}) ScheduleFault → Option (List ℕ) → Option (List ℕ) → Type 0
WritesSchedule t hops file schedule result old new = WritesScheduleBy
    (HasScheduleReport t hops file schedule) (RefusesScheduleLine t file schedule) t file schedule result old new
