-- How far a run over a schedule's lines has come, and what goes out. Of what is played, `Plays` tells in which state its
-- network stands and what was told, and `left_in` which packets wait, the next one first.
use Rattle.std.specs.Prelude.{◌≡◌, ◌⊎◌, ℕ, ◌≤◌, Bool, true, false, List, [], ◌∷◌, ◌++◌, length, slice_index, Result, Ok, Err}
use Rattle.std.specs.declared.option.Option.{Option}
use Rattle.snap_io.specs.declared.read.ReadRefusal.{ReadRefusal}
use Rattle.snap_io.specs.declared.read.ReadRefusal.TheVariants as refusal
use Rattle.snap_rows.specs.declared.tables.Tables.{Tables}
use Rattle.snap_rows.specs.Network.{Net, Event, Inject, Step}
use Rattle.snap_runs.specs.declared.schedule.ScheduleFault.{ScheduleFault}
use Rattle.snap_runs.specs.declared.schedule.ScheduleFault.TheVariants.{Packets, Read, TooLong, Line, Write, NoMemory}
use Rattle.snap_runs.specs.Plain.{spelled_for}
use Rattle.snap_runs.specs.Schedules.{AreBothRead, CantBeDone, EndsEarlyBy, ObeysBy, StopsAtBy, WritesScheduleBy, lines_of, order_by}

-- ---- events
-- some events were done
abbrev pub IsPlaying : {S L P : Type 0} → (Plays : Tables → Bool → S → List L → P → Type 0) → P → Type 0
IsPlaying {S} {L} Plays v = (t : Tables) × (hops : Bool) × (s : S) × (told : List L) × Plays t hops s told v

module _ {S L P : Type 0} (Leads : Tables → S → Event → S → List L → Type 0)
    (Plays : Tables → Bool → S → List L → P → Type 0) (left_in : P → List (List ℕ)) where
  -- the next packet was injected
  pub record Injects (t : Tables) (hops : Bool) (s : S) (told : List L) (old new : P) : Type 0 where
    pub packet : List ℕ
    pub next : left_in old ≡ packet ∷ left_in new
    pub state : S
    pub leads : Leads t s (Inject (slice_index packet 0) packet) state []
    pub plays : Plays t hops state told new

  -- or none is left
  abbrev pub HasInjected : (old new : P) → Bool → Type 0
  HasInjected old new true = (t : Tables) (hops : Bool) (s : S) (told : List L)
      → Plays t hops s told old → Injects t hops s told old new
  HasInjected old new false = left_in old ≡ []

  -- copy k has made a step
  pub record StepsOn (t : Tables) (hops : Bool) (k : ℕ) (s : S) (told : List L) (old new : P) : Type 0 where
    pub left : left_in new ≡ left_in old
    pub state : S
    pub turns : List L
    pub leads : Leads t s (Step k) state turns
    pub plays : Plays t hops state (told ++ turns) new

  -- or there is no such copy
  abbrev pub HasStepped : (net : S → Net) → ℕ → (old new : P) → Bool → Type 0
  HasStepped net k old new true = (t : Tables) (hops : Bool) (s : S) (told : List L)
      → Plays t hops s told old → StepsOn t hops k s told old new
  HasStepped net k old new false = (t : Tables) (hops : Bool) (s : S) (told : List L)
      → Plays t hops s told old → length (net s).flying ≤ k

-- ---- lines
-- the line with this number can't be done, or all lines are done too early
abbrev pub RefusesLineBy : {S L : Type 0} → (net : S → Net) → (leads : S → Event → S → List L → Type 0) → (begin : S)
    → (ks lines : List (List ℕ)) → (number : ℕ) → Type 0
RefusesLineBy net leads begin ks lines number =
    StopsAtBy net leads begin ks lines number ⊎ EndsEarlyBy net leads begin ks lines number

-- such a line is told, or want of memory
abbrev pub StopsBy : (Refuses : ℕ → Type 0) → ScheduleFault → Type 0
StopsBy Refuses (Line number) = Refuses number
StopsBy Refuses NoMemory = Unit {0}
StopsBy Refuses (Packets fault) = ⊥
StopsBy Refuses Read = ⊥
StopsBy Refuses TooLong = ⊥
StopsBy Refuses Write = ⊥

module _ {S L P : Type 0} (net : S → Net) (Leads : Tables → S → Event → S → List L → Type 0) (begin : Tables → S)
    (Plays : Tables → Bool → S → List L → P → Type 0) (left_in : P → List (List ℕ)) where
  -- no line was done yet
  abbrev pub IsFresh : P → Type 0
  IsFresh v = (t : Tables) × (hops : Bool) × Plays t hops (begin t) [] v

  -- so many lines of the schedule were done
  pub record PlaysLines (t : Tables) (hops : Bool) (ks lines : List (List ℕ)) (v : P) : Type 0 where
    pub state : S
    pub told : List L
    pub plays : Plays t hops state told v
    pub obeys : ObeysBy (Leads t) (begin t) ks lines (left_in v) state told

  -- a line was done, or it can't be done
  abbrev pub HasDone : (line : List ℕ) → (old new : P) → Bool → Type 0
  HasDone line old new true = (t : Tables) (hops : Bool) (ks lines : List (List ℕ))
      → PlaysLines t hops ks lines old → PlaysLines t hops ks (lines ++ line ∷ []) new
  HasDone line old new false = (t : Tables) (hops : Bool) (ks lines : List (List ℕ)) (p : PlaysLines t hops ks lines old)
      → CantBeDone (order_by line) (left_in old) (net p.state)

  -- so many lines were done, and these are left
  pub record SoFar (t : Tables) (hops : Bool) (ks lines : List (List ℕ)) (rest : List ℕ) (number : ℕ) (v : P) : Type 0 where
    pub done : List (List ℕ)
    pub are : lines ≡ done ++ lines_of rest
    pub is : number ≡ length done
    pub plays : PlaysLines t hops ks done v

  -- all lines were done and nothing is left, or not
  abbrev pub HasRun : (t : Tables) → (hops : Bool) → (ks lines : List (List ℕ)) → (new : P) → Result (Unit {0}) ScheduleFault → Type 0
  HasRun t hops ks lines new (Ok u) = (p : PlaysLines t hops ks lines new) × (left_in new ≡ []) × ((net p.state).flying ≡ [])
  HasRun t hops ks lines new (Err fault) = StopsBy (RefusesLineBy net (Leads t) (begin t) ks lines) fault

  -- the report of each run after which nothing is left
  abbrev pub IsReportOf : (Reports : Tables → Bool → (ks lines : List (List ℕ)) → List ℕ → Type 0) → P → (text : List ℕ) → Type 0
  IsReportOf Reports v text = (t : Tables) (hops : Bool) (ks lines : List (List ℕ)) (p : PlaysLines t hops ks lines v)
      → left_in v ≡ [] → (net p.state).flying ≡ [] → Reports t hops ks lines text

-- ---- files
-- why the schedule isn't read
abbrev pub schedule_refusal : ReadRefusal → ScheduleFault
schedule_refusal refusal.Failed = Read
schedule_refusal refusal.TooLong = TooLong
schedule_refusal refusal.NoMemory = NoMemory

-- What goes out for a packets file and a schedule, where its lines tell a report or one is refused.
abbrev pub WritesLines : (Reports : (ks lines : List (List ℕ)) → List ℕ → Type 0) → (Refuses : (ks lines : List (List ℕ)) → ℕ → Type 0)
    → Tables → (file schedule : List ℕ) → Result (Unit {0}) ScheduleFault → (old new : Option (List ℕ)) → Type 0
WritesLines Reports Refuses t file schedule result old new = WritesScheduleBy
    (λ text. AreBothRead t file schedule × Reports (spelled_for t file).packets (lines_of schedule) text)
    (λ number. AreBothRead t file schedule × Refuses (spelled_for t file).packets (lines_of schedule) number) t file schedule result old new
