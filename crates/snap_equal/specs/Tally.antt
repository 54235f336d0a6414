-- What additions add to a place.
use Rattle.std.specs.Prelude.{◌≡◌, ℕ, ◌-◌, ◌%◌, ◌^◌, ◌<◌, Bool, true, false, List, [], ◌∷◌, Option, Some, None, All, if◌then◌else◌}
use Rattle.snap_core.specs.declared.place.Place.{Place}
use Rattle.snap_core.specs.declared.policy.Update.{Update}
use Rattle.snap_core.specs.Arrays.{same_place, place_at, has}
use Rattle.snap_context.specs.Classes.{wrap}
use Rattle.snap_context.specs.View.{View}
use Rattle.snap_compose.specs.Additions.{IsAddition, added}
use Rattle.snap_equal.specs.declared.tally.Direction.{Direction}
use Rattle.snap_equal.specs.declared.tally.Direction.TheVariants.{Plus, Minus}
use Rattle.snap_equal.specs.Inputs.{IsUpdate}
use Rattle.snap_equal.specs.Told.{On}

-- a number at the place of an update, and 0 at others
abbrev pub share_of : Update → ℕ → List ℕ → Place → ℕ
share_of u n k q = if same_place (place_at u.var u.index k) q then n else 0

-- what one update adds to a place, and what several add, modulo 2^64
abbrev pub share : Update → List ℕ → Place → ℕ
share u k q = share_of u (added u.op) k q

abbrev pub total : List Update → List ℕ → Place → ℕ
total [] k q = 0
total (u ∷ us) k q = wrap (share u k q) (total us k q)

-- all updates of variables outside the set are additions
abbrev pub AddOutside : ℕ → List Update → Type 0
AddOutside mixed us = All (λ u. has mixed u.var ≡ false → IsAddition u.op) us

-- an addition of a variable outside the set
pub record IsSum (mixed comps arrays : ℕ) (u : Update) : Type 0 where
  pub is : IsUpdate comps u
  pub adds : IsAddition u.op
  pub small : added u.op < 2 ^ 64
  pub outside : has mixed u.var ≡ false
  pub var : u.var < arrays

-- a number with a sign, modulo 2^64
abbrev pub signed : Direction → ℕ → ℕ
signed Plus n = n
signed Minus n = wrap 0 (2 ^ 64 - n % 2 ^ 64)

-- what several add to a place with a sign
abbrev pub signed_total : Direction → List Update → List ℕ → Place → ℕ
signed_total sign [] k q = 0
signed_total sign (u ∷ us) k q = wrap (share_of u (signed sign (added u.op)) k q) (signed_total sign us k q)

-- at each place of a variable outside the set, sums add what the first updates add beyond the others
abbrev pub IsDifference : View → ℕ → List Update → List Update → List Update → Type 0
IsDifference v mixed left right sums = On v
    (λ m k. (q : Place) → has mixed q.var ≡ false → wrap (total sums k q) (total right k q) ≡ total left k q)

-- the variables that are looked at: all, or those of a set
abbrev pub is_chosen : Option ℕ → ℕ → Bool
is_chosen None v = true
is_chosen (Some set) v = has set v
