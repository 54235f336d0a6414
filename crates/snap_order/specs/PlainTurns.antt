-- A plain run is a run in order.
use Rattle.std.specs.Prelude.{◌≡◌, ℕ, List}
use Rattle.snap_core.specs.Arrays.{Arrays}
use Rattle.snap_rows.specs.declared.tables.Tables.{Tables}
use Rattle.snap_rows.specs.Form.{IsWellFormed}
use Rattle.snap_rows.specs.Network.{Event, Happening, Net}
use Rattle.snap_rows.specs.Network as network
use Rattle.snap_rows.specs.Rules.{IsValid}
use Rattle.snap_order.specs.Ordered.{Ordered, OrderedHappening, happenings}
use Rattle.snap_order.specs.Runs.{IsPlainRun}

-- the run in order of the same events, with the same stores and copies at its end, and of which the same is told
pub record TakesTurns (t : Tables) (m : Arrays) (ks : List (ℕ × List ℕ)) (es : List Event) (s : Net) (hs : List Happening) : Type 0 where
  pub end : Ordered
  pub turns : List OrderedHappening
  pub run : IsPlainRun t m ks es end turns
  pub net : end.net ≡ s
  pub told : happenings turns ≡ hs

-- **In a plain run nobody waits**: over valid tables of version 2 it is a run in order.
abbrev pub PlainRunsTakeTurns : Type 0
PlainRunsTakeTurns = (t : Tables) → IsWellFormed t → IsValid t → t.version ≡ 2
    → (m : Arrays) (ks : List (ℕ × List ℕ)) (es : List Event) (s : Net) (hs : List Happening)
    → network.IsPlainRun t m ks es s hs → TakesTurns t m ks es s hs
