-- The tables of a run's turns are those in force.
use Rattle.std.specs.Prelude.{◌≡◌, ℕ, ◌+◌, List, [], ◌∷◌}
use Rattle.snap_core.specs.Arrays.{zero_arrays}
use Rattle.snap_rows.specs.declared.tables.Tables.{Tables}
use Rattle.snap_rows.specs.Network.{Net, start}
use Rattle.snap_runs.specs.declared.later.Later.{Later}
use Rattle.snap_runs.specs.Changing.{RunsThrough, Passage, in_force}

-- each turn has the tables in force for its number. The first has number i
abbrev pub AreInForce : (force : ℕ → Tables) → (i : ℕ) → List Passage → Type 0
AreInForce force i [] = Unit {0}
AreInForce force i (x ∷ xs) = (x.tables ≡ force i) × AreInForce force (i + 1) xs

-- so it is in each run, whatever the tables
abbrev pub TurnsAreInForce : Type 0
TurnsAreInForce = (first : Tables) (later : List Later) (ks : List (List ℕ))
    (end : Tables) (left : List Later) (s : Net) (turns : List Passage)
    → RunsThrough end left s first later (start first zero_arrays) ks turns → AreInForce (in_force first later) 0 turns
