-- Relations between variables, as rows of sets: a row for each variable, with those that are related to it.
use Rattle.std.specs.Prelude.{◌≡◌, ◌≢◌, ◌↔◌, ◌⊎◌, ◌<◌, ℕ, IsTrue, List, slice_index, Contains}
use Rattle.std.specs.List.{AllPairs}
use Rattle.snap_core.specs.Arrays.{has}

-- the row of t has s
abbrev pub Relates : List ℕ → ℕ → ℕ → Type 0
Relates rows s t = IsTrue (has (slice_index rows t) s)

-- the rows are those of a relation
abbrev pub IsRelation : (ℕ → ℕ → Type 0) → List ℕ → Type 0
IsRelation R rows = (s t : ℕ) → Relates rows s t ↔ R s t

-- the variables with a property, as a set
abbrev pub IsSetOf : (ℕ → Type 0) → ℕ → Type 0
IsSetOf P set = (v : ℕ) → IsTrue (has set v) ↔ P v

-- a variable of the set to which no other one of the set is related
pub record IsFree (rows : List ℕ) (set v : ℕ) : Type 0 where
  pub inside : IsTrue (has set v)
  pub free : (s : ℕ) → IsTrue (has set s) → s ≢ v → ¬ (Relates rows s v)

-- pairs in rising order of the first, and then of the second
abbrev pub PrecedesPair : ℕ × ℕ → ℕ × ℕ → Type 0
PrecedesPair a b = (a.0 < b.0) ⊎ ((a.0 ≡ b.0) × (a.1 < b.1))

-- the pairs of a relation in rising order
pub record Lists (R : ℕ → ℕ → Type 0) (pairs : List (ℕ × ℕ)) : Type 0 where
  pub rising : AllPairs PrecedesPair pairs
  pub each : (s t : ℕ) → Contains pairs (s, t) ↔ R s t

-- those of them that are before a pair
pub record ListsTo (R : ℕ → ℕ → Type 0) (end : ℕ × ℕ) (pairs : List (ℕ × ℕ)) : Type 0 where
  pub rising : AllPairs PrecedesPair pairs
  pub each : (s t : ℕ) → Contains pairs (s, t) ↔ (R s t × PrecedesPair (s, t) end)
