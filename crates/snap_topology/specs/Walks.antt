-- Walks, and what is least or greatest among them. A step leads from a switch to one that is linked to it.
use Rattle.std.specs.Prelude.{◌≡◌, ◌≤◌, ◌<◌, ◌⊎◌, ℕ, List, [], ◌∷◌, length, Contains}
use Rattle.snap_topology.specs.Pairs.{PrecedesPair}

-- a link of the list joins the two
abbrev pub Linked : List (ℕ × ℕ) → ℕ → ℕ → Type 0
Linked links a b = Contains links (a, b) ⊎ Contains links (b, a)

-- from a the switches of the list lead to b, each linked to the one before
abbrev pub IsWalk : (ℕ → ℕ → Type 0) → ℕ → List ℕ → ℕ → Type 0
IsWalk step a [] b = a ≡ b
IsWalk step a (x ∷ xs) b = step a x × IsWalk step x xs b

-- there is a walk from a to b
abbrev pub HasWalk : (ℕ → ℕ → Type 0) → ℕ → ℕ → Type 0
HasWalk step a b = (xs : List ℕ) × IsWalk step a xs b

-- d is the least number of links of a walk from a to b
pub record IsDistance (step : ℕ → ℕ → Type 0) (a b d : ℕ) : Type 0 where
  pub walk : (xs : List ℕ) × ((length xs ≡ d) × IsWalk step a xs b)
  pub least : (xs : List ℕ) → IsWalk step a xs b → d ≤ length xs

-- n is the neighbour of a of least number among those with the least distance to b
pub record IsNext (step : ℕ → ℕ → Type 0) (a b n : ℕ) : Type 0 where
  pub neighbour : step a n
  pub nearest : (m d e : ℕ) → step a m → IsDistance step n b d → IsDistance step m b e → d ≤ e
  pub least : (m d : ℕ) → step a m → IsDistance step n b d → IsDistance step m b d → n ≤ m

-- d is the greatest distance between two of count switches
pub record IsDiameter (step : ℕ → ℕ → Type 0) (count d : ℕ) : Type 0 where
  pub reached : (a : ℕ) × ((b : ℕ) × ((a < count) × ((b < count) × IsDistance step a b d)))
  pub greatest : (a b e : ℕ) → a < count → b < count → IsDistance step a b e → e ≤ d

-- no walk joins a and b, the first such pair of count switches
pub record IsFirstApart (step : ℕ → ℕ → Type 0) (count a b : ℕ) : Type 0 where
  pub lesser : a < b
  pub below : b < count
  pub apart : HasWalk step a b → ⊥
  pub first : (c d : ℕ) → c < d → d < count → PrecedesPair c d a b → HasWalk step c d
