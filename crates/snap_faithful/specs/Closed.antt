-- What the pass over the numbers leaves: marks that are closed under single steps.
use Rattle.std.specs.Prelude.{◌≡◌, ◌≢◌, ℕ, Bool, true, Option, Some, List, ◌∷◌, map, Contains}
use Rattle.snap_core.specs.declared.policy.Test.{Test}
use Rattle.snap_core.specs.declared.policy.Update.{Update}
use Rattle.snap_rows.specs.declared.tables.Tables.{Tables}
use Rattle.snap_rows.specs.declared.tables.Row.{Row}
use Rattle.snap_rows.specs.declared.tables.Row.TheVariants.{Field, State, Last}
use Rattle.snap_rows.specs.declared.tables.Stage.{Stage as LeafStage}
use Rattle.snap_rows.specs.Entries.{Parts, var_of, next}
use Rattle.snap_rows.specs.Ways.{Route}
use Rattle.snap_faithful.specs.OnDemand.{stages_of, place_of, HasNodes}
use Rattle.snap_faithful.specs.Derived.{IsWanted}

-- a marked pair hands its mark on: a test row to its ways, a row `go` and a leaf's row to the next switch on the way to the
-- array and to the first stage,
-- and a leaf anywhere to the walks from stage to stage
pub record IsClosed (t : Tables) (nodes : ℕ → Option Row) (has : ℕ → ℕ → Bool) : Type 0 where
  pub ports : (p w : ℕ) → Contains t.ports (record { port = p; at = w }) → has w 0 ≡ true
  pub fields : (w n y z : ℕ) (test : Test) → nodes n ≡ Some (Field test y z) → has w n ≡ true → (has w y ≡ true) × (has w z ≡ true)
  pub owners : (w n y z : ℕ) (test : Test) → nodes n ≡ Some (State test y z)
      → place_of t (var_of test) ≡ w → has w n ≡ true → (has w y ≡ true) × (has w z ≡ true)
  pub others : (w n y z : ℕ) (test : Test) → nodes n ≡ Some (State test y z)
      → place_of t (var_of test) ≢ w → has w n ≡ true → has (next t w (place_of t (var_of test))) n ≡ true
  pub first : (w n : ℕ) (us : List Update) (os : List Parts) (s : LeafStage) (ss : List LeafStage) → nodes n ≡ Some (Last us os)
      → stages_of (place_of t) us ≡ s ∷ ss → w ≢ s.at → has w n ≡ true → has (next t w s.at) n ≡ true
  pub rest : (w n : ℕ) (us : List Update) (os : List Parts) (s : LeafStage) (ss : List LeafStage)
      → nodes n ≡ Some (Last us os) → stages_of (place_of t) us ≡ s ∷ ss → has w n ≡ true
      → (ws : List ℕ) → Route t s.at (map (λ (u : LeafStage). u.at) ss) ws → (x : ℕ) → Contains ws x → has x n ≡ true

-- closed marks are of all wanted pairs
abbrev pub ClosedIsWhole : Type 0
ClosedIsWhole = (t : Tables) (nodes : ℕ → Option Row) (has : ℕ → ℕ → Bool) → t.version ≡ 1
    → HasNodes t nodes → IsClosed t nodes has → (w n : ℕ) → IsWanted t nodes w n → has w n ≡ true
