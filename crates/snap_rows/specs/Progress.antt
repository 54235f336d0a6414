-- What can be done with valid tables: each step, in one way alone, and each plain schedule to its end.
use Rattle.std.specs.Prelude.{◌≡◌, ℕ, List, slice_index, IsSome}
use Rattle.std.specs.List.{All}
use Rattle.snap_core.specs.Arrays.{Arrays}
use Rattle.snap_rows.specs.declared.tables.Tables.{Tables}
use Rattle.snap_rows.specs.declared.head.Head.{Head}
use Rattle.snap_rows.specs.Actions.{Action}
use Rattle.snap_rows.specs.Entries.{port_at}
use Rattle.snap_rows.specs.Form.{IsWellFormed}
use Rattle.snap_rows.specs.Rules.{IsValid}
use Rattle.snap_rows.specs.Handles.{Handles}
use Rattle.snap_rows.specs.Home.{AtHome}
use Rattle.snap_rows.specs.Network.{Net, Event, Happening, IsPlainRun}

-- a head at home can be handled
abbrev pub CanBeHandled : Type 0
CanBeHandled = (t : Tables) → IsValid t → IsWellFormed t → (w : ℕ) (k : List ℕ) (m : Arrays) (h : Head)
    → AtHome t w h → (m' : Arrays) × (a : Action) × Handles t w k m h m' a

-- and in one way alone
abbrev pub IsHandledOneWay : Type 0
IsHandledOneWay = (t : Tables) → IsWellFormed t → (w : ℕ) (k : List ℕ) (m : Arrays) (h : Head) (m' m'' : Arrays) (a b : Action)
    → Handles t w k m h m' a → Handles t w k m h m'' b → (m' ≡ m'') × (a ≡ b)

-- the packet can be injected at the port
pub record CanBeInjected (t : Tables) (p : ℕ × List ℕ) : Type 0 where
  pub port : IsSome (port_at t p.0)
  pub first : slice_index p.1 0 ≡ p.0

-- the plain schedule of each list of packets comes to its end
abbrev pub PlainRunsEnd : Type 0
PlainRunsEnd = (t : Tables) → IsValid t → IsWellFormed t → (m : Arrays) (ks : List (ℕ × List ℕ))
    → All (CanBeInjected t) ks → (es : List Event) × (s : Net) × (hs : List Happening) × IsPlainRun t m ks es s hs
