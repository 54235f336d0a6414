-- What a schedule spells, and the run that it tells.
use Rattle.std.specs.Prelude.{◌≡◌, ◌≢◌, ◌⊎◌, ℕ, ◌+◌, ◌<◌, ◌≤◌, ◌==◌, Bool, true, false, not, ◌||◌, List, [], ◌∷◌, ◌++◌, codes, length, slice_index, if◌then◌else◌, Result, Ok, Err, Some, None, option_map}
use Rattle.std.specs.declared.option.Option.{Option}
use Rattle.std.specs.Str.{bytes_eq}
use Rattle.std.specs.Io.KnownBytes.{Appends}
use Rattle.snap_core.specs.Arrays.{zero_arrays}
use Rattle.snap_core.specs.Figures.{number_of, parts_at}
use Rattle.snap_io.specs.Sinks.{AppendsSome}
use Rattle.snap_rows.specs.declared.tables.Tables.{Tables}
use Rattle.snap_rows.specs.Network.{Net, Event, Inject, Step, Happening, Leads, RunsBy, start}
use Rattle.snap_report.specs.PacketLines.{is_some_text, without_return, words_of}
use Rattle.snap_report.specs.declared.fault.TraceFault.{TraceFault}
use Rattle.snap_report.specs.declared.fault.TraceFault.TheVariants as trace
use Rattle.snap_report.specs.Spelled.{ended, refused}
use Rattle.snap_runs.specs.declared.event.Instruction.{Instruction}
use Rattle.snap_runs.specs.declared.event.Instruction.TheVariants as order
use Rattle.snap_runs.specs.declared.schedule.ScheduleFault.{ScheduleFault}
use Rattle.snap_runs.specs.declared.schedule.ScheduleFault.TheVariants.{Packets, Read, TooLong, Line, Write, NoMemory}
use Rattle.snap_runs.specs.Plain.{spelled_for}
use Rattle.snap_runs.specs.Reports.{IsRunReport}

-- ---- lines
-- the parts are lines, but for an empty one at the end
abbrev pub whole_lines : List (List ℕ) → List (List ℕ)
whole_lines [] = []
whole_lines (part ∷ []) = if is_some_text part then part ∷ [] else []
whole_lines (part ∷ next ∷ parts) = part ∷ whole_lines (next ∷ parts)

-- the lines of a text, each ended by an LF, which the last may lack
abbrev pub lines_of : List ℕ → List (List ℕ)
lines_of text = whole_lines (parts_at 10 text)

-- `step K`, where no word stands behind
abbrev pub step_order : (word figures : List ℕ) → (more : Bool) → Option Instruction
step_order word figures more = if more || not (bytes_eq word (codes "step")) then None else option_map order.Step (number_of figures)

abbrev pub is_some_list : List (List ℕ) → Bool
is_some_list [] = false
is_some_list (word ∷ words) = true

abbrev pub order_of_words : List (List ℕ) → Option Instruction
order_of_words [] = Some order.Skip
order_of_words (word ∷ []) = if bytes_eq word (codes "inject") then Some order.Inject else None
order_of_words (word ∷ figures ∷ words) = step_order word figures (is_some_list words)

-- what a line orders: nothing, where it has no words or its first byte is `#`; `inject`; or `step K`
abbrev pub order_by : List ℕ → Option Instruction
order_by [] = Some order.Skip
order_by (b ∷ bs) = if b == 35 then Some order.Skip else order_of_words (words_of (without_return (b ∷ bs)))

-- ---- events
-- the lines spell these events, with these packets, of which some are left
pub data Spells : List (List ℕ) → (ks : List (List ℕ)) → List Event → (left : List (List ℕ)) → Type 0 where
  nothing : {ks : List (List ℕ)} → Spells [] ks [] ks
  skips : {line : List ℕ} {lines ks left : List (List ℕ)} {es : List Event}
      → order_by line ≡ Some order.Skip → Spells lines ks es left → Spells (line ∷ lines) ks es left
  injects : {line k : List ℕ} {lines ks left : List (List ℕ)} {es : List Event}
      → order_by line ≡ Some order.Inject → Spells lines ks es left
      → Spells (line ∷ lines) (k ∷ ks) (Inject (slice_index k 0) k ∷ es) left
  steps : {line : List ℕ} {lines ks left : List (List ℕ)} {i : ℕ} {es : List Event}
      → order_by line ≡ Some (order.Step i) → Spells lines ks es left
      → Spells (line ∷ lines) ks (Step i ∷ es) left

-- a run does the events of these lines
pub record ObeysBy {S L : Type 0} (leads : S → Event → S → List L → Type 0)
    (begin : S) (ks lines left : List (List ℕ)) (s : S) (told : List L) : Type 0 where
  pub events : List Event
  pub spells : Spells lines ks events left
  pub run : RunsBy leads begin events s told

-- so does one of the network from empty arrays
abbrev pub Obeys : Tables → (ks lines left : List (List ℕ)) → Net → List Happening → Type 0
Obeys t ks lines left s hs = ObeysBy (Leads t) (start t zero_arrays) ks lines left s hs

-- what a line orders isn't in form, or can't be done
abbrev pub CantBeDone : Option Instruction → (left : List (List ℕ)) → Net → Type 0
CantBeDone None left s = Unit {0}
CantBeDone (Some order.Skip) left s = ⊥
CantBeDone (Some order.Inject) left s = left ≡ []
CantBeDone (Some (order.Step i)) left s = length s.flying ≤ i

-- the first line that isn't in form or can't be done has this number, counted from 1
pub record StopsAtBy {S L : Type 0} (net : S → Net) (leads : S → Event → S → List L → Type 0)
    (begin : S) (ks lines : List (List ℕ)) (number : ℕ) : Type 0 where
  pub before : List (List ℕ)
  pub line : List ℕ
  pub behind : List (List ℕ)
  pub are : lines ≡ before ++ line ∷ behind
  pub is : number ≡ length before + 1
  pub left : List (List ℕ)
  pub state : S
  pub told : List L
  pub obeys : ObeysBy leads begin ks before left state told
  pub stuck : CantBeDone (order_by line) left (net state)

abbrev pub StopsAt : Tables → (ks lines : List (List ℕ)) → (number : ℕ) → Type 0
StopsAt t ks lines number = StopsAtBy (λ (s : Net). s) (Leads t) (start t zero_arrays) ks lines number

-- all lines are done, and a packet or a copy is left: this is the number of the line behind
pub record EndsEarlyBy {S L : Type 0} (net : S → Net) (leads : S → Event → S → List L → Type 0)
    (begin : S) (ks lines : List (List ℕ)) (number : ℕ) : Type 0 where
  pub is : number ≡ length lines + 1
  pub left : List (List ℕ)
  pub state : S
  pub told : List L
  pub obeys : ObeysBy leads begin ks lines left state told
  pub some : (left ≢ []) ⊎ ((net state).flying ≢ [])

abbrev pub EndsEarly : Tables → (ks lines : List (List ℕ)) → (number : ℕ) → Type 0
EndsEarly t ks lines number = EndsEarlyBy (λ (s : Net). s) (Leads t) (start t zero_arrays) ks lines number

-- the line with this number can't be done, or all lines are done too early
abbrev pub RefusesLine : Tables → (ks lines : List (List ℕ)) → (number : ℕ) → Type 0
RefusesLine t ks lines number = StopsAt t ks lines number ⊎ EndsEarly t ks lines number

-- wherever a line injects a packet, the lines before it leave no copy in flight
abbrev pub IsSequential : Tables → (ks lines : List (List ℕ)) → Type 0
IsSequential t ks lines = (before behind : List (List ℕ)) (line : List ℕ) → lines ≡ before ++ line ∷ behind → order_by line ≡ Some order.Inject
    → (left : List (List ℕ)) (s : Net) (hs : List Happening) → Obeys t ks before left s hs → s.flying ≡ []

-- the report of the run that the lines tell, after which nothing is left
pub record IsScheduleReport (t : Tables) (hops : Bool) (ks lines : List (List ℕ)) (text : List ℕ) : Type 0 where
  pub state : Net
  pub happenings : List Happening
  pub obeys : Obeys t ks lines [] state happenings
  pub ended : state.flying ≡ []
  pub report : IsRunReport t hops (length ks) state happenings text

-- ---- files
-- the packets file was read to its end
abbrev pub IsReadWhole : Tables → (file : List ℕ) → Type 0
IsReadWhole t file = (spelled_for t file).stop ≡ ended

-- the packets file was read to its end, and the schedule has at most so many bytes
abbrev pub AreBothRead : Tables → (file schedule : List ℕ) → Type 0
AreBothRead t file schedule = IsReadWhole t file × (length schedule ≤ 67108864)

-- the report of a packets file and a schedule
abbrev pub HasScheduleReport : Tables → (hops : Bool) → (file schedule : List ℕ) → List ℕ → Type 0
HasScheduleReport t hops file schedule text = AreBothRead t file schedule
    × IsScheduleReport t hops (spelled_for t file).packets (lines_of schedule) text

-- the line of a schedule that is refused
abbrev pub RefusesScheduleLine : Tables → (file schedule : List ℕ) → (number : ℕ) → Type 0
RefusesScheduleLine t file schedule number = AreBothRead t file schedule
    × RefusesLine t (spelled_for t file).packets (lines_of schedule) number

-- why the packets file isn't read to its end
abbrev pub RefusesPackets : Tables → (file : List ℕ) → TraceFault → Type 0
RefusesPackets t file trace.Read = Unit {0}
RefusesPackets t file trace.NoMemory = Unit {0}
RefusesPackets t file (trace.Limit which count) = (spelled_for t file).stop ≡ refused (trace.Limit which count)
RefusesPackets t file (trace.Packets line) = (spelled_for t file).stop ≡ refused (trace.Packets line)
RefusesPackets t file trace.Write = ⊥
RefusesPackets t file (trace.Undefined packet) = ⊥

-- The whole report went out, or nothing, or some first bytes where the sink failed. The packets file is read to its end
-- before the schedule, and the schedule before its lines are done.
abbrev pub WritesScheduleBy : (HasReport : List ℕ → Type 0) → (Refuses : ℕ → Type 0) → Tables
    → (file schedule : List ℕ) → Result (Unit {0}) ScheduleFault → Option (List ℕ) → Option (List ℕ) → Type 0
WritesScheduleBy HasReport Refuses t file schedule (Ok u) old new = (text : List ℕ) × HasReport text × Appends old new text
WritesScheduleBy HasReport Refuses t file schedule (Err Write) old new = AppendsSome HasReport old new
WritesScheduleBy HasReport Refuses t file schedule (Err (Packets fault)) old new = (new ≡ old) × RefusesPackets t file fault
WritesScheduleBy HasReport Refuses t file schedule (Err Read) old new = (new ≡ old) × IsReadWhole t file
WritesScheduleBy HasReport Refuses t file schedule (Err NoMemory) old new = new ≡ old
WritesScheduleBy HasReport Refuses t file schedule (Err TooLong) old new = (new ≡ old) × IsReadWhole t file × (67108864 < length schedule)
WritesScheduleBy HasReport Refuses t file schedule (Err (Line line)) old new = (new ≡ old) × Refuses line

abbrev pub WritesSchedule : Tables → (hops : Bool) → (file schedule : List ℕ)
    → Result (Unit {0}) ScheduleFault → Option (List ℕ) → Option (List ℕ) → Type 0
WritesSchedule t hops file schedule result old new = WritesScheduleBy
    (HasScheduleReport t hops file schedule) (RefusesScheduleLine t file schedule) t file schedule result old new

-- a call tells of this line, unless a device failed or memory was short
abbrev pub TellsOfLine : Result (Unit {0}) ScheduleFault → ℕ → Type 0
TellsOfLine (Ok u) number = ⊥
TellsOfLine (Err (Line line)) number = line ≡ number
TellsOfLine (Err (Packets fault)) number = (fault ≡ trace.Read) ⊎ (fault ≡ trace.NoMemory)
TellsOfLine (Err Read) number = Unit {0}
TellsOfLine (Err NoMemory) number = Unit {0}
TellsOfLine (Err TooLong) number = ⊥
TellsOfLine (Err Write) number = ⊥
