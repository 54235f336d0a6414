-- What a switch does with a copy: one step.
use Rattle.std.specs.Prelude.{◌≡◌, ◌≢◌, ℕ, ◌+◌, ◌<◌, Bool, true, false, ◌==◌, nat_le, Option, Some, None, List, [], ◌∷◌, length, slice_get, slice_index, filter, map, if◌then◌else◌}
use Rattle.snap_core.specs.declared.policy.Update.{Update}
use Rattle.snap_core.specs.Arrays.{Arrays, updates}
use Rattle.snap_core.specs.Switch.{delivered, lost}
use Rattle.snap_core.specs.Tests.{passes, results}
use Rattle.snap_rows.specs.declared.tables.Tables.{Tables}
use Rattle.snap_rows.specs.declared.head.Head.{Head}
use Rattle.snap_rows.specs.declared.head.Head.TheVariants.{Walk, Stage, Out, Visit}
use Rattle.snap_rows.specs.Actions.{Action, Forward, Deliver, Fork}
use Rattle.snap_rows.specs.declared.head.Sent.{Sent}
use Rattle.snap_rows.specs.declared.tables.Row.{Row}
use Rattle.snap_rows.specs.declared.tables.Row.TheVariants.{Field, State, Go, Leaf, Last}
use Rattle.snap_rows.specs.declared.tables.Stage.{Stage as LeafStage}
use Rattle.snap_rows.specs.Entries.{Parts, row_at, next, port_at, port_numbers, rank_of, rank_at, ranks, var_of}

-- a packet on its way to the port that its `outport` names
abbrev pub sent : List ℕ → Sent
sent k = record { port = slice_index k 1; packet = k }

-- a fork: the different packets that the outs make, in rising order, each to its port; those for no port are lost
abbrev pub forked : Tables → List Parts → List ℕ → Action
forked t os k = Fork (map sent (delivered (port_numbers t) (results os k))) (lost (port_numbers t) (results os k))

-- the number to which a test row goes
abbrev pub side : Row → Arrays → List ℕ → Option ℕ
side (Field test y z) m k = Some (if passes test m k then y else z)
side (State test y z) m k = Some (if passes test m k then y else z)
side _ m k = None

abbrev pub is_field : Row → Bool
is_field (Field test y z) = true
is_field _ = false

abbrev pub is_test : Row → Bool
is_test (Field test y z) = true
is_test (State test y z) = true
is_test _ = false

-- whether a row is a state row of rank r
abbrev pub is_ranked : Tables → ℕ → Row → Bool
is_ranked t r (State test y z) = rank_of t (var_of test) == r
is_ranked t r _ = false

-- at switch w, from a number along the rows that pass a test to the first that doesn't
pub data Follows (t : Tables) (w : ℕ) (k : List ℕ) (p : Row → Bool) (m : Arrays) : ℕ → ℕ → Type 0 where
  arrives : {n : ℕ} {b : Row} → row_at t w n ≡ Some b → p b ≡ false → Follows t w k p m n n
  follows : {n x v : ℕ} {b : Row} → row_at t w n ≡ Some b → p b ≡ true → side b m k ≡ Some x → Follows t w k p m x v → Follows t w k p m n v

-- m with each array of greater rank than r taken as 0
abbrev pub cut : Tables → ℕ → Arrays → Arrays
cut t r m p = if nat_le (rank_of t p.var) r then m p else 0

-- the visit of rank r at number n: its number v, and its updates
pub record Visits (t : Tables) (w : ℕ) (k : List ℕ) (m : Arrays) (r n v : ℕ) (us : List Update) : Type 0 where
  pub leaf : ℕ
  pub ups : List Update
  pub outs : List Parts
  pub number : Follows t w k (is_ranked t r) m n v
  pub walk : Follows t w k is_test (cut t r m) v leaf
  pub row : row_at t w leaf ≡ Some (Last ups outs)
  pub updates : us ≡ filter (λ (u : Update). rank_of t u.var == r) ups

-- with a copy of packet k and the arrays m, switch w leaves the arrays m' and does this
pub data Handles (t : Tables) (w : ℕ) (k : List ℕ) : Arrays → Head → Arrays → Action → Type 0 where
  -- version 1
  asks : {m m' : Arrays} {n x : ℕ} {b : Row} {a : Action} → t.version ≡ 1 → row_at t w n ≡ Some b → side b m k ≡ Some x
      → Handles t w k m (Walk x) m' a → Handles t w k m (Walk n) m' a
  goes : {m : Arrays} {n x : ℕ} → row_at t w n ≡ Some (Go x) → Handles t w k m (Walk n) m (Forward (next t w x) (Walk n))
  forks : {m : Arrays} {n : ℕ} {os : List Parts} → row_at t w n ≡ Some (Leaf [] os) → Handles t w k m (Walk n) m (forked t os k)
  begins : {m m' : Arrays} {n : ℕ} {s : LeafStage} {ss : List LeafStage} {os : List Parts} {a : Action} → row_at t w n ≡ Some (Leaf (s ∷ ss) os)
      → Handles t w k m (Stage n 0) m' a → Handles t w k m (Walk n) m' a
  passes_on : {m : Arrays} {n i : ℕ} {s : LeafStage} {ss : List LeafStage} {os : List Parts}
      → row_at t w n ≡ Some (Leaf ss os) → slice_get ss i ≡ Some s → s.at ≢ w
      → Handles t w k m (Stage n i) m (Forward (next t w s.at) (Stage n i))
  goes_on : {m m' : Arrays} {n i : ℕ} {s : LeafStage} {ss : List LeafStage} {os : List Parts} {a : Action}
      → row_at t w n ≡ Some (Leaf ss os) → slice_get ss i ≡ Some s → s.at ≡ w
      → i + 1 < length ss → Handles t w k (updates m s.ups k) (Stage n (i + 1)) m' a → Handles t w k m (Stage n i) m' a
  completes : {m : Arrays} {n i : ℕ} {s : LeafStage} {ss : List LeafStage} {os : List Parts}
      → row_at t w n ≡ Some (Leaf ss os) → slice_get ss i ≡ Some s → s.at ≡ w
      → i + 1 ≡ length ss → Handles t w k m (Stage n i) (updates m s.ups k) (forked t os k)
  -- version 2
  enters : {m m' : Arrays} {n v : ℕ} {a : Action} → t.version ≡ 2 → ranks t ≢ 0 → Follows t w k is_field m n v
      → Handles t w k m (Visit 0 v) m' a → Handles t w k m (Walk n) m' a
  enters_last : {m : Arrays} {n v : ℕ} {us : List Update} {os : List Parts} → t.version ≡ 2
      → ranks t ≡ 0 → Follows t w k is_field m n v → row_at t w v ≡ Some (Last us os)
      → Handles t w k m (Walk n) m (forked t os k)
  seeks : {m : Arrays} {r n x : ℕ} → rank_at t r ≡ Some x → x ≢ w → Handles t w k m (Visit r n) m (Forward (next t w x) (Visit r n))
  visits : {m m' : Arrays} {r n v : ℕ} {us : List Update} {a : Action} → rank_at t r ≡ Some w → Visits t w k m r n v us → r + 1 < ranks t
      → Handles t w k (updates m us k) (Visit (r + 1) v) m' a → Handles t w k m (Visit r n) m' a
  concludes : {m : Arrays} {r n v : ℕ} {us ups : List Update} {os : List Parts}
      → rank_at t r ≡ Some w → Visits t w k m r n v us → r + 1 ≡ ranks t → row_at t w v ≡ Some (Last ups os)
      → Handles t w k m (Visit r n) (updates m us k) (forked t os k)
  -- both
  delivers : {m : Arrays} {p : ℕ} → port_at t p ≡ Some w → Handles t w k m (Out p) m (Deliver p)
  carries : {m : Arrays} {p x : ℕ} → port_at t p ≡ Some x → x ≢ w → Handles t w k m (Out p) m (Forward (next t w x) (Out p))
