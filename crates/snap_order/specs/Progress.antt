-- What can be done in an ordered network of valid tables, whatever has been injected and done: no packet is stuck.
use Rattle.std.specs.Prelude.{◌≡◌, ◌≢◌, ℕ, Some, List, [], ◌∷◌, slice_get}
use Rattle.snap_core.specs.Arrays.{Arrays}
use Rattle.snap_rows.specs.declared.tables.Tables.{Tables}
use Rattle.snap_rows.specs.Form.{IsWellFormed}
use Rattle.snap_rows.specs.Network.{Copy, Event, Step, packets_of}
use Rattle.snap_rows.specs.Rules.{IsValid}
use Rattle.snap_order.specs.Ordered.{Ordered, OrderedHappening, Waits, LeadsInOrder, OrderedRun, RunsInOrder}

-- a step of copy i can be made
pub record CanStep (t : Tables) (s : Ordered) (i : ℕ) : Type 0 where
  pub state : Ordered
  pub turns : List OrderedHappening
  pub leads : LeadsInOrder t s (Step i) state turns

-- a step of some copy can be made in which it doesn't wait
pub record CanGoOn (t : Tables) (s : Ordered) : Type 0 where
  pub place : ℕ
  pub copy : Copy
  pub is : slice_get s.net.flying place ≡ Some copy
  pub step : CanStep t s place
  pub goes : (r : ℕ) → step.turns ≢ Waits copy r ∷ []

-- steps alone lead to an end
pub record CanEnd (t : Tables) (s : Ordered) : Type 0 where
  pub events : List Event
  pub steps : packets_of events ≡ []
  pub end : Ordered
  pub turns : List OrderedHappening
  pub run : RunsInOrder t s events end turns
  pub ended : end.net.flying ≡ []

-- so it is in every state to which events lead in order
abbrev pub WhereverItRuns : (Tables → Ordered → Type 0) → Type 0
WhereverItRuns P = (t : Tables) → IsValid t → IsWellFormed t → t.version ≡ 2
    → (m : Arrays) (es : List Event) (s : Ordered) (us : List OrderedHappening) → OrderedRun t m es s us → P t s

-- a step of each copy in flight can be made
abbrev pub StepsInOrderCanBeMade : Type 0
StepsInOrderCanBeMade = WhereverItRuns (λ t s. (i : ℕ) (c : Copy) → slice_get s.net.flying i ≡ Some c → CanStep t s i)

-- **no deadlock**: where copies are in flight, one can make a step in which it doesn't wait
abbrev pub SomeCopyGoesOn : Type 0
SomeCopyGoesOn = WhereverItRuns (λ t s. s.net.flying ≢ [] → CanGoOn t s)

-- and so all can come to rest
abbrev pub RunsInOrderCanEnd : Type 0
RunsInOrderCanEnd = WhereverItRuns CanEnd
