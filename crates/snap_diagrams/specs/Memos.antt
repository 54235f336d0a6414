-- What numbers are remembered for.
use Rattle.std.specs.Prelude.{◌≡◌, ℕ, List, [], ◌∷◌, Some, map}
use Rattle.snap_core.specs.Cells.{Cells, cell}

-- each number that stands for a list of numbers is as told
abbrev pub Remembers : (List ℕ → ℕ → Type 0) → Cells → Type 0
Remembers P memo = (q : List ℕ) (d : ℕ) → cell memo q ≡ Some d → P q d

-- what is kept for two numbers each
abbrev pub paired : List ((ℕ × ℕ) × ℕ) → Cells
paired es = map (λ e. (e.0.0 ∷ e.0.1 ∷ [], e.1)) es
