-- Where arrays may stand, as marks of switches.
use Rattle.std.specs.Prelude.{◌≡◌, ◌<◌, ℕ, Bool, true, false, List, [], length, slice_index_or}
use Rattle.snap_dep.specs.Ranks.{Grouping, rank_of}
use Rattle.snap_placement.specs.DemandAnswer.{may}

-- the mark of a variable at a switch
abbrev pub mark_at : List (List Bool) → ℕ → ℕ → Bool
mark_at marks v at = slice_index_or (slice_index_or marks v []) at false

-- each variable of v's group is marked there
abbrev pub GroupMarked : Grouping → List (List Bool) → ℕ → ℕ → Type 0
GroupMarked g marks v at = (u : ℕ) → u < length marks → rank_of g u ≡ rank_of g v → mark_at marks u at ≡ true

-- each variable is marked at those of count switches at which it may stand
abbrev pub AreMarks : (count : ℕ) → (switches arrays : List (List ℕ)) → List (List ℕ × List (List ℕ)) → List (List Bool) → Type 0
AreMarks count switches arrays entries marks = (v : ℕ) → v < length arrays → (at : ℕ) → at < count
    → mark_at marks v at ≡ may switches entries (slice_index_or arrays v []) at
