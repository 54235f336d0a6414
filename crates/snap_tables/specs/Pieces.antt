-- Pieces of a line: words that stand together, and lists of such pieces.
use Rattle.std.specs.Prelude.{◌≡◌, ◌≢◌, ◌<◌, ℕ, Bool, true, false, ◌&&◌, List, [], ◌∷◌, ◌++◌, Option, MatchOption, length}
use Rattle.std.specs.Borrow.{Bor}
use Rattle.std.specs.Global.{Vec}
use Rattle.std.specs.List.{All, flat_map}
use Rattle.snap_tables.specs.Reading.{words_left}
use Rattle.snap_tables.specs.Text.{Words}

-- a piece stands at the front of words, and they don't go on with more of it
pub record IsPiece {X : Type 0} (spelled : X → Words) (Fits : X → Type 0)
    (goes_on : Words → Bool) (ws : Words) (x : X) (left : Words) : Type 0 where
  pub words : ws ≡ spelled x ++ left
  pub fits : Fits x
  pub ends : goes_on left ≡ false
  pub shorter : length left < length ws

-- no piece does
abbrev pub IsNoPiece : {X : Type 0} → (spelled : X → Words) → (Fits : X → Type 0) → (goes_on : Words → Bool) → Words → Type 0
IsNoPiece {X} spelled Fits goes_on ws = (x : X) (left : Words) → Fits x → goes_on left ≡ false → ws ≢ spelled x ++ left

-- the piece that was taken from the front of words, if one was
abbrev pub TakesOne : {X : Type 0} → (spelled : X → Words) → (Fits : X → Type 0) → (goes_on : Words → Bool) → Words
    → Option (X × Option (Bor (List ℕ))) → Type 0
TakesOne spelled Fits goes_on ws took = MatchOption took
    (IsNoPiece spelled Fits goes_on ws) (λ pair. IsPiece spelled Fits goes_on ws pair.0 (words_left pair.1))

-- these pieces stand at the front of words, and no other begins behind them
pub record TakesAll {X : Type 0} (spelled : X → Words) (Fits : X → Type 0)
    (opens goes_on : Words → Bool) (ws : Words) (xs : List X) (left : Words) : Type 0 where
  pub words : ws ≡ flat_map spelled xs ++ left
  pub each : All Fits xs
  pub last : 0 < length xs → goes_on left ≡ false
  pub ends : opens left ≡ false

-- behind pieces at the front of words another begins, and is none
pub record FailsAfter {X : Type 0} (spelled : X → Words) (Fits : X → Type 0) (opens goes_on : Words → Bool) (ws : Words) : Type 0 where
  pub done : List X
  pub left : Words
  pub words : ws ≡ flat_map spelled done ++ left
  pub each : All Fits done
  pub begins : opens left ≡ true
  pub none : IsNoPiece spelled Fits goes_on left

-- the pieces that were taken from the front of words, if each that begins is in form
abbrev pub TakesMany : {X : Type 0} → (spelled : X → Words) → (Fits : X → Type 0) → (opens goes_on : Words → Bool) → Words
    → Option (Vec X × Option (Bor (List ℕ))) → Type 0
TakesMany spelled Fits opens goes_on ws took = MatchOption took
    (FailsAfter spelled Fits opens goes_on ws) (λ pair. TakesAll spelled Fits opens goes_on ws pair.0.items (words_left pair.1))

-- each of a list stands so to the next
abbrev pub is_adjacent : {X : Type 0} → (X → X → Bool) → List X → Bool
is_adjacent r [] = true
is_adjacent r (x ∷ []) = true
is_adjacent r (x ∷ y ∷ ys) = r x y && is_adjacent r (y ∷ ys)

-- a list of pieces stands at the front of words, and one of these lists stands behind it; no other two lists make these words
pub record IsFront {X Y : Type 0} (spelled : X → Words) (Are : List X → Type 0) (behind : Y → Words)
    (AreBehind : List Y → Type 0) (ws : Words) (xs : List X) (left : Words) : Type 0 where
  pub words : ws ≡ flat_map spelled xs ++ left
  pub fits : Are xs
  pub one : (us : List X) (ys : List Y) → Are us → AreBehind ys
      → ws ≡ flat_map spelled us ++ flat_map behind ys → (xs ≡ us) × (left ≡ flat_map behind ys)

-- no two lists make these words
abbrev pub IsNoFront : {X Y : Type 0} → (spelled : X → Words) → (Are : List X → Type 0)
    → (behind : Y → Words) → (AreBehind : List Y → Type 0) → Words → Type 0
IsNoFront {X} {Y} spelled Are behind AreBehind ws = (us : List X) (ys : List Y)
    → Are us → AreBehind ys → ws ≢ flat_map spelled us ++ flat_map behind ys
