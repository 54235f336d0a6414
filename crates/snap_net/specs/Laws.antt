-- Laws of runs.
use Rattle.std.specs.Prelude.{◌≡◌, ◌≢◌, ℕ, Some, List}
use Rattle.snap_core.specs.declared.place.Place.{Place}
use Rattle.snap_core.specs.Arrays.{Arrays}
use Rattle.snap_rows.specs.declared.tables.Tables.{Tables}
use Rattle.snap_rows.specs.Entries.{owner_of}
use Rattle.snap_rows.specs.Form.{IsWellFormed}
use Rattle.snap_rows.specs.Rules.{IsValid}
use Rattle.snap_rows.specs.Network.{Net, Event, Happening, Run}

-- no switch holds a number of an array that stands elsewhere
abbrev pub HoldsOwnAlone : Tables → Net → Type 0
HoldsOwnAlone t s = (w : ℕ) (p : Place) → owner_of t p.var ≢ Some w → s.stores w p ≡ 0

-- after every list of events that is so
abbrev pub ArraysStayHome : Type 0
ArraysStayHome = (t : Tables) → IsValid t → IsWellFormed t
    → (m : Arrays) (es : List Event) (s : Net) (hs : List Happening) → Run t m es s hs → HoldsOwnAlone t s
