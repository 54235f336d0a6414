-- What a group becomes depends on itself and on the groups before it alone.
use Rattle.std.specs.Prelude.{◌≡◌, ◌≢◌, ℕ, ◌≤◌, Bool, true, nat_le, Option, Some, None, List, if◌then◌else◌}
use Rattle.snap_core.specs.declared.place.Place.{Place}
use Rattle.snap_core.specs.declared.policy.Pol.{Pol}
use Rattle.snap_core.specs.Arrays.{Arrays}
use Rattle.snap_core.specs.Inputs.{IsStore, IsPacket}
use Rattle.snap_core.specs.Meaning.{Meaning, eval}
use Rattle.snap_dep.specs.Dependencies.{Depends, UsesBelow}
use Rattle.snap_dep.specs.Ranks.{IsRank, IsRankIn}

-- the arrays agree at each variable of S
abbrev pub AgreeOn : (ℕ → Bool) → Arrays → Arrays → Type 0
AgreeOn S m n = (q : Place) → S q.var ≡ true → m q ≡ n q

-- each variable on which one of S depends is in S too
abbrev pub IsClosed : Pol → (ℕ → Bool) → Type 0
IsClosed p S = (s t : ℕ) → Depends p s t → S t ≡ true → S s ≡ true

-- from arrays that agree on a closed set of variables come arrays that agree on it
abbrev pub KeepsAgreement : Type 0
KeepsAgreement =
    (p : Pol) (S : ℕ → Bool) → IsClosed p S → (m n : Arrays) (k : List ℕ) → AgreeOn S m n
    → (a b : Meaning) → eval p m k ≡ Some a → eval p n k ≡ Some b → AgreeOn S a.arrays b.arrays

-- m with each variable of a rank above r set to 0
abbrev pub cut : (ℕ → ℕ) → ℕ → Arrays → Arrays
cut rank r m q = if nat_le (rank q.var) r then m q else 0

-- evaluation is undefined for no store and packet
abbrev pub NeverRaces : Pol → ℕ → Type 0
NeverRaces p c = (m : Arrays) (k : List ℕ) → IsStore m → IsPacket c k → eval p m k ≢ None

-- what the arrays are after evaluation
abbrev pub arrays_after : Arrays → Option Meaning → Arrays
arrays_after m None = m
arrays_after m (Some o) = o.arrays

-- the variables of rank r, and those of lesser ranks, after evaluation on m are as after evaluation on m cut at r
abbrev pub ActsByRank : Type 0
ActsByRank =
    (p : Pol) (c n : ℕ) → UsesBelow n p → NeverRaces p c
    → (order : List ℕ) (rank : ℕ → ℕ) → IsRank p n order → IsRankIn p n order rank
    → (m : Arrays) (k : List ℕ) → IsStore m → IsPacket c k
    → (r : ℕ) (q : Place) → rank q.var ≤ r
    → arrays_after m (eval p m k) q ≡ arrays_after m (eval p (cut rank r m) k) q
