-- Policies without parallel parts.
use Rattle.std.specs.Prelude.{◌≡◌, ℕ, Some, List}
use Rattle.snap_core.specs.declared.policy.Pol.{Pol}
use Rattle.snap_core.specs.declared.policy.Pol.TheVariants.{Filter, Set, Change, Par', Seq', If', Atomic'}
use Rattle.snap_core.specs.Arrays.{Arrays}
use Rattle.snap_core.specs.Meaning.{Meaning, eval}

abbrev pub IsSerial : Pol → Type 0
IsSerial (Filter x) = Unit {0}
IsSerial (Set c a) = Unit {0}
IsSerial (Change u) = Unit {0}
IsSerial (Par' _ p _ q) = ⊥
IsSerial (Seq' _ p _ q) = IsSerial p × IsSerial q
IsSerial (If' x _ p _ q) = IsSerial p × IsSerial q
IsSerial (Atomic' _ p) = IsSerial p

-- **a policy without parallel parts races on no store and packet**
abbrev pub SerialNeverRaces : Type 0
SerialNeverRaces = (p : Pol) → IsSerial p → (m : Arrays) (k : List ℕ) → (o : Meaning) × (eval p m k ≡ Some o)
