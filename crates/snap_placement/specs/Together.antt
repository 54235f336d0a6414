-- Tied variables at one switch.
use Rattle.std.specs.Prelude.{◌≡◌, ◌≢◌, ◌<◌, ℕ, List, length, slice_index}
use Rattle.snap_dep.specs.Ranks.{Grouping, rank_of}
use Rattle.snap_placement.specs.declared.placement.PlaceFault.{PlaceFault}
use Rattle.snap_placement.specs.declared.placement.PlaceFault.TheVariants.{Apart}
use Rattle.snap_topology.specs.Pairs.{PrecedesPair}

-- tied variables have one owner
abbrev pub IsTogether : (ℕ → ℕ → Type 0) → List ℕ → Type 0
IsTogether tied owners = (a b : ℕ) → a < b → b < length owners → tied a b → slice_index owners a ≡ slice_index owners b

-- a and b are tied and have different owners, and are the first such pair
pub record IsFirstApart (tied : ℕ → ℕ → Type 0) (owners : List ℕ) (a b : ℕ) : Type 0 where
  pub lesser : a < b
  pub below : b < length owners
  pub together : tied a b
  pub apart : slice_index owners a ≢ slice_index owners b
  pub first : (c d : ℕ) → c < d → d < length owners → PrecedesPair c d a b → tied c d → slice_index owners c ≡ slice_index owners d

-- the fault names the first such pair
abbrev pub TellsApart : (ℕ → ℕ → Type 0) → List ℕ → PlaceFault → Type 0
TellsApart tied owners (Apart a b) = IsFirstApart tied owners a b
TellsApart tied owners _ = ⊥

-- by their ranks in a grouping
abbrev pub TiedBy : Grouping → ℕ → ℕ → Type 0
TiedBy g a b = rank_of g a ≡ rank_of g b

-- each later variable that is tied to a has a's owner
abbrev pub IsTogetherWith : (ℕ → ℕ → Type 0) → List ℕ → ℕ → Type 0
IsTogetherWith tied owners a = (d : ℕ) → a < d → d < length owners → tied a d → slice_index owners a ≡ slice_index owners d

-- b is the first later variable that is tied to a and has another owner
pub record IsFirstTorn (tied : ℕ → ℕ → Type 0) (owners : List ℕ) (a b : ℕ) : Type 0 where
  pub lesser : a < b
  pub below : b < length owners
  pub together : tied a b
  pub apart : slice_index owners a ≢ slice_index owners b
  pub first : (d : ℕ) → a < d → d < b → tied a d → slice_index owners a ≡ slice_index owners d
