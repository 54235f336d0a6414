-- Pairs of numbers, by the first and then by the second.
use Rattle.std.specs.Prelude.{◌≡◌, ◌⊎◌, ◌<◌, ℕ}

-- the pair of c and d comes before that of a and b
abbrev pub PrecedesPair : ℕ → ℕ → ℕ → ℕ → Type 0
PrecedesPair c d a b = (c < a) ⊎ ((c ≡ a) × (d < b))
