-- What is found at the front of a text in one pass.
use Rattle.std.specs.Prelude.{◌≡◌, ℕ, ◌<◌, ◌≤◌, List, true, get_or, length, take}
use Rattle.std.specs.List.{list_all}
use Rattle.std.specs.Char.{is_ascii_digit}
use Rattle.snap_core.specs.Figures.{value_of_digits}

-- so many digits worth this number, and then a blank or the end
pub record IsNumberFront (text : List ℕ) (at number : ℕ) : Type 0 where
  pub within : at ≤ length text
  pub digits : list_all is_ascii_digit (take at text) ≡ true
  pub value : value_of_digits (take at text) ≡ number
  pub stops : at < length text → get_or text at 0 ≡ 32
