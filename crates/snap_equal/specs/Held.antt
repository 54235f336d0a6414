-- What places hold after updates.
use Rattle.std.specs.Prelude.{◌≡◌, ℕ, true, List, Option, length, All}
use Rattle.snap_core.specs.declared.policy.Atom.{Atom}
use Rattle.snap_core.specs.declared.policy.Op.{Op}
use Rattle.snap_core.specs.declared.policy.Op.TheVariants.{Put, Add}
use Rattle.snap_core.specs.declared.policy.Update.{Update}
use Rattle.snap_core.specs.Arrays.{Arrays, place_at, updates}
use Rattle.snap_core.specs.Tests.{TermFits, term_value}
use Rattle.snap_context.specs.Classes.{wrap, shift}
use Rattle.snap_context.specs.View.{View}
use Rattle.snap_compose.specs.PulledBack.{term_of}
use Rattle.snap_equal.specs.declared.held.PlaceValue.{PlaceValue}
use Rattle.snap_equal.specs.declared.held.PlaceValue.TheVariants.{Is, Old}
use Rattle.snap_equal.specs.Tally.{is_chosen}
use Rattle.snap_equal.specs.Told.{On}

-- the number that is held, where the old one is x
abbrev pub held_value : PlaceValue → ℕ → List ℕ → ℕ
held_value (Is t) x k = term_value t k
held_value (Old n) x k = wrap x n

abbrev pub HeldFits : ℕ → PlaceValue → Type 0
HeldFits c (Is t) = TermFits c t
HeldFits c (Old n) = Unit {0}

-- what is held after one operation more
abbrev pub more : ℕ → PlaceValue → PlaceValue
more n (Is t) = Is (shift t n)
more n (Old x) = Old (wrap x n)

abbrev pub changed : PlaceValue → Op → PlaceValue
changed h (Put a) = Is (term_of a)
changed h (Add n) = more n h

-- what a place holds after updates
pub record IsHeld (v : View) (us : List Update) (s : ℕ) (ix : List Atom) (h : PlaceValue) : Type 0 where
  pub value : On v (λ m k. updates m us k (place_at s ix k) ≡ held_value h (m (place_at s ix k)) k)
  pub fits : HeldFits (length v.classes) h

-- two stores agree at the place of each update on a variable that is looked at
abbrev pub AgreeAlong : Option ℕ → List Update → List ℕ → Arrays → Arrays → Type 0
AgreeAlong only us k m n = All (λ u. is_chosen only u.var ≡ true → m (place_at u.var u.index k) ≡ n (place_at u.var u.index k)) us
