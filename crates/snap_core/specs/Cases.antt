-- Numbers, each with what it stands for.
use Rattle.std.specs.Prelude.{ℕ, ◌==◌, List, Option}
use Rattle.std.specs.Map.{lookup}

-- what the first case of a number says
abbrev pub case_at : List (ℕ × ℕ) → ℕ → Option ℕ
case_at cs n = lookup (λ m. m == n) cs
