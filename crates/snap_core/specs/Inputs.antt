-- The stores and packets that programs are run on.
use Rattle.std.specs.Prelude.{◌≡◌, ℕ, ◌^◌, ◌<◌, ◌≤◌, List, length, All}
use Rattle.snap_core.specs.declared.place.Place.{Place}
use Rattle.snap_core.specs.Arrays.{Arrays}

-- the number at each place has 64 bits
abbrev pub IsStore : Arrays → Type 0
IsStore m = (q : Place) → m q < 2 ^ 64

-- so many components, each of 64 bits
pub record IsPacket (comps : ℕ) (k : List ℕ) : Type 0 where
  pub long : length k ≡ comps
  pub numbers : All (λ n. n < 2 ^ 64) k

-- 0 at each variable from this one on
abbrev pub IsZeroFrom : ℕ → Arrays → Type 0
IsZeroFrom arrays m = (q : Place) → arrays ≤ q.var → m q ≡ 0

-- a store over so many variables, and a packet of so many components
pub record IsInput (comps arrays : ℕ) (m : Arrays) (k : List ℕ) : Type 0 where
  pub store : IsStore m
  pub only : IsZeroFrom arrays m
  pub packet : IsPacket comps k
