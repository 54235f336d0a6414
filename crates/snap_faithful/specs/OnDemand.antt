-- Which rows tables on demand have.
use Rattle.std.specs.Prelude.{◌≡◌, ◌≢◌, ℕ, ◌<◌, ◌==◌, Option, Some, None, List, [], ◌∷◌, IsSome, slice_get, unwrap_or, if◌then◌else◌}
use Rattle.snap_core.specs.declared.ports.PortAt.{PortAt}
use Rattle.snap_core.specs.declared.policy.Test.{Test}
use Rattle.snap_core.specs.declared.policy.Update.{Update}
use Rattle.snap_rows.specs.declared.tables.RowAt.{RowAt}
use Rattle.snap_rows.specs.declared.tables.Tables.{Tables}
use Rattle.snap_rows.specs.declared.tables.Row.{Row}
use Rattle.snap_rows.specs.declared.tables.Row.TheVariants.{State, Go, Leaf, Last}
use Rattle.snap_rows.specs.declared.tables.Stage.{Stage as LeafStage}
use Rattle.snap_rows.specs.Entries.{row_at, owner_of, var_of}
use Rattle.snap_rows.specs.Form.{IsWellFormed, array_count}
use Rattle.snap_rows.specs.Rules.{IsValid}
use Rattle.snap_rows.specs.Ways.{LeadsTo, Reached}
use Rattle.snap_rows.specs.Leads.{IsNumberAfter}
use Rattle.snap_faithful.specs.Planned.{IsNodeKind, AreHops}

-- an update before some stages: in the first of them if that is at its switch, else in a stage of its own
abbrev pub in_front : ℕ → Update → List LeafStage → List LeafStage
in_front w u [] = record { at = w; ups = u ∷ [] } ∷ []
in_front w u (s ∷ ss) = if s.at == w then (record { at = w; ups = u ∷ s.ups } ∷ ss) else (record { at = w; ups = u ∷ [] } ∷ s ∷ ss)

-- the stages of updates in order, next to each other different switches; `at` gives the switch of a variable
abbrev pub stages_of : (ℕ → ℕ) → List Update → List LeafStage
stages_of at [] = []
stages_of at (u ∷ us) = in_front (at u.var) u (stages_of at us)

-- the node of version 1
abbrev pub staged : (ℕ → ℕ) → Row → Row
staged at (Last us os) = Leaf (stages_of at us) os
staged at b = b

-- the row of a switch for a node: itself, but for a test of an array that stands elsewhere
abbrev pub row_on : (ℕ → ℕ) → ℕ → Row → Row
row_on at w (State test y z) = if at (var_of test) == w then State test y z else Go (at (var_of test))
row_on at w b = staged at b

-- the switch of a variable
abbrev pub place_of : Tables → ℕ → ℕ
place_of t v = unwrap_or (owner_of t v) 0

-- nodes whose numbers rise
pub record HasNodes (t : Tables) (nodes : ℕ → Option Row) : Type 0 where
  pub kinds : (n : ℕ) (b : Row) → nodes n ≡ Some b → IsNodeKind b
  pub arrays : (n : ℕ) (test : Test) (y z : ℕ) → nodes n ≡ Some (State test y z) → var_of test < array_count t
  pub ways : (n x : ℕ) (b : Row) → nodes n ≡ Some b → IsNumberAfter b x → (n < x) × (nodes x ≢ None)

-- **the rows on demand**: each is its number's node as its switch has it; what a port or a row leads to has a row; and a chain
-- of leads from a port comes to each.
-- So they are the least set that is closed under leads
pub record AreOnDemand (t : Tables) (nodes : ℕ → Option Row) : Type 0 where
  pub bodies : (w n : ℕ) (b : Row) → row_at t w n ≡ Some b → (c : Row) × (nodes n ≡ Some c) × (b ≡ row_on (place_of t) w c)
  pub ports : (i : ℕ) (p : PortAt) → slice_get t.ports i ≡ Some p → IsSome (row_at t p.at 0)
  pub leads : (w n x k : ℕ) (b : Row) → row_at t w n ≡ Some b → LeadsTo t w n b x k → IsSome (row_at t x k)
  pub least : (w n : ℕ) (b : Row) → row_at t w n ≡ Some b → Reached t w n
  pub once : (i : ℕ) (r : RowAt) → slice_get t.rows i ≡ Some r → row_at t r.at r.number ≡ Some r.row

-- tables on demand are valid
abbrev pub OnDemandIsValid : Type 0
OnDemandIsValid = (t : Tables) (nodes : ℕ → Option Row) → IsWellFormed t
    → t.version ≡ 1 → HasNodes t nodes → AreHops t → AreOnDemand t nodes → IsValid t
