-- A topology as the list of each switch's neighbours.
use Rattle.std.specs.Prelude.{◌<◌, ◌^◌, ℕ, List, [], length, Contains, slice_index_or}
use Rattle.std.specs.List.Sorted.{IsNonDecreasing}

-- the neighbours of a switch
abbrev pub neighbours_of : List (List ℕ) → ℕ → List ℕ
neighbours_of graph a = slice_index_or graph a []

abbrev pub Adjacent : List (List ℕ) → ℕ → ℕ → Type 0
Adjacent graph a m = Contains (neighbours_of graph a) m

-- neighbours are switches in order, and links go both ways
pub record IsGraph (graph : List (List ℕ)) : Type 0 where
  pub below : (a m : ℕ) → Adjacent graph a m → m < length graph
  pub both_ways : (a m : ℕ) → Adjacent graph a m → Adjacent graph m a
  pub rise : (a : ℕ) → a < length graph → IsNonDecreasing (neighbours_of graph a)
  pub few : length graph < 2 ^ 16
