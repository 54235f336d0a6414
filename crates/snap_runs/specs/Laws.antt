-- Laws of runs over packets, and of their reports.
use Rattle.std.specs.Prelude.{◌≡◌, ℕ, Bool, false, List, [], Result}
use Rattle.std.specs.declared.option.Option.{Option}
use Rattle.std.specs.List.{All}
use Rattle.snap_core.specs.Arrays.{Arrays, zero_arrays}
use Rattle.snap_core.specs.Fields.{count}
use Rattle.snap_core.specs.Inputs.{IsPacket}
use Rattle.snap_rows.specs.declared.tables.Tables.{Tables}
use Rattle.snap_rows.specs.Form.{IsWellFormed}
use Rattle.snap_rows.specs.Network.{Event, Happening, IsPlainRun, Net, RunsSequentially, packets_of, start}
use Rattle.snap_report.specs.Spelled.{ended, spelled}
use Rattle.snap_runs.specs.declared.frames.Frames.{Frames}
use Rattle.snap_runs.specs.declared.schedule.ScheduleFault.{ScheduleFault}
use Rattle.snap_runs.specs.Plain.{ArePlainBlocks, IsPlainReport, entering, spelled_for}
use Rattle.snap_runs.specs.Reports.{AreBlocks, IsRunReport, IsRunReportBy}
use Rattle.snap_runs.specs.Schedules.{IsSequential, IsScheduleReport, Obeys, RefusesLine, RefusesScheduleLine, Spells, TellsOfLine, WritesSchedule}

-- the plain run of packets is one: the same events, the same end and the same happenings
abbrev pub PlainRunsAreOne : Type 0
PlainRunsAreOne = (t : Tables) → IsWellFormed t
    → (m : Arrays) (ks : List (ℕ × List ℕ)) (es es' : List Event) (s s' : Net) (hs hs' : List Happening)
    → IsPlainRun t m ks es s hs → IsPlainRun t m ks es' s' hs' → (es ≡ es') × (s ≡ s') × (hs ≡ hs')

-- a run has one report, and happenings have the same blocks
abbrev pub RunReportsAreOne : Type 0
RunReportsAreOne = (t : Tables) (hops : Bool) (count : ℕ) (s : Net) (hs : List Happening) (a b : List ℕ)
    → IsRunReport t hops count s hs a → IsRunReport t hops count s hs b → a ≡ b

abbrev pub RunBlocksAreOne : Type 0
RunBlocksAreOne = (t : Tables) (hops : Bool) (count : ℕ) (hs : List Happening) (a b : List ℕ)
    → AreBlocks t hops count hs a → AreBlocks t hops count hs b → a ≡ b

-- and a run with a report has one without hops, which is the same where none are told
abbrev pub RunsReportWithoutHops : Type 0
RunsReportWithoutHops = (f : Frames) (t : Tables) (hops : Bool) (count : ℕ) (s : Net) (hs : List Happening) (text : List ℕ)
    → IsRunReportBy f t hops count s hs text
    → (plain : List ℕ) × IsRunReportBy f t false count s hs plain × (hops ≡ false → plain ≡ text)

-- so packets have one report, and the same blocks, in the plain run
abbrev pub PlainReportsAreOne : Type 0
PlainReportsAreOne = (t : Tables) → IsWellFormed t → (hops : Bool) (ks : List (List ℕ)) (a b : List ℕ)
    → IsPlainReport t hops ks a → IsPlainReport t hops ks b → a ≡ b

abbrev pub PlainBlocksAreOne : Type 0
PlainBlocksAreOne = (t : Tables) → IsWellFormed t → (hops : Bool) (ks : List (List ℕ)) (a b : List ℕ)
    → ArePlainBlocks t hops ks a → ArePlainBlocks t hops ks b → a ≡ b

-- ---- schedules
-- the run that lines tell is one
abbrev pub ScheduledRunsAreOne : Type 0
ScheduledRunsAreOne = (t : Tables) → IsWellFormed t → (ks lines left left' : List (List ℕ)) (s s' : Net) (hs hs' : List Happening)
    → Obeys t ks lines left s hs → Obeys t ks lines left' s' hs' → (left ≡ left') × (s ≡ s') × (hs ≡ hs')

-- so lines tell one report, or are refused at one line, and not both
abbrev pub ScheduleReportsAreOne : Type 0
ScheduleReportsAreOne = (t : Tables) → IsWellFormed t → (hops : Bool) (ks lines : List (List ℕ)) (a b : List ℕ)
    → IsScheduleReport t hops ks lines a → IsScheduleReport t hops ks lines b → a ≡ b

abbrev pub RefusedLinesAreOne : Type 0
RefusedLinesAreOne = (t : Tables) → IsWellFormed t → (ks lines : List (List ℕ)) (a b : ℕ)
    → RefusesLine t ks lines a → RefusesLine t ks lines b → a ≡ b

abbrev pub ReportedOrRefused : Type 0
ReportedOrRefused = (t : Tables) → IsWellFormed t → (hops : Bool) (ks lines : List (List ℕ)) (text : List ℕ) (number : ℕ)
    → IsScheduleReport t hops ks lines text → RefusesLine t ks lines number → ⊥

-- and a call that writes the report of a schedule tells of the line that is refused, and of no other
abbrev pub RefusedLinesAreTold : Type 0
RefusedLinesAreTold = (t : Tables) → IsWellFormed t → (hops : Bool) (file schedule : List ℕ)
    (result : Result (Unit {0}) ScheduleFault) (old new : Option (List ℕ)) → WritesSchedule t hops file schedule result old new
    → (number : ℕ) → RefusesScheduleLine t file schedule number → TellsOfLine result number

-- the run that a sequential schedule tells is sequential
abbrev pub SequentialSchedulesRunSequentially : Type 0
SequentialSchedulesRunSequentially = (t : Tables) (ks lines left : List (List ℕ)) (s : Net) (hs : List Happening) → IsSequential t ks lines
    → (o : Obeys t ks lines left s hs) → RunsSequentially t (start t zero_arrays) o.events s hs

-- lines that inject all packets inject them in their order
abbrev pub SchedulesKeepOrder : Type 0
SchedulesKeepOrder = (lines ks : List (List ℕ)) (es : List Event) → Spells lines ks es [] → packets_of es ≡ entering ks

-- ---- files
-- a packet that a file spells has the tables' components, each of 64 bits
abbrev pub SpelledPacketsFit : Type 0
SpelledPacketsFit = (t : Tables) (file : List ℕ) → All (IsPacket (count t.fields)) (spelled_for t file).packets

-- where the file is read to its end, the tables' ports refuse none of its packets: it spells those of the fields
abbrev pub SpelledForIsSpelled : Type 0
SpelledForIsSpelled = (t : Tables) (file : List ℕ) → (spelled_for t file).stop ≡ ended → spelled_for t file ≡ spelled t.fields file
