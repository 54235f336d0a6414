-- Walks over the nodes of tables, and the chain of a packet's visits.
use Rattle.std.specs.Prelude.{◌≡◌, ℕ, ◌+◌, Bool, true, Some, List, slice_index}
use Rattle.snap_core.specs.declared.policy.Update.{Update}
use Rattle.snap_core.specs.Arrays.{Arrays}
use Rattle.snap_rows.specs.declared.tables.Tables.{Tables}
use Rattle.snap_rows.specs.declared.tables.Row.{Row}
use Rattle.snap_rows.specs.Entries.{node_of, port_at, rank_at}
use Rattle.snap_rows.specs.Handles.{side, is_field, Follows, Visits}

-- by the arrays m, from number n along nodes that pass a test to number v
pub data Comes (t : Tables) (k : List ℕ) (p : Row → Bool) (m : Arrays) : ℕ → ℕ → Type 0 where
  here : {n : ℕ} → Comes t k p m n n
  on : {n x v : ℕ} {b : Row} → node_of t n ≡ Some b → p b ≡ true → side b m k ≡ Some x → Comes t k p m x v → Comes t k p m n v

-- at the switch of the port that the packet names, the field rows from number 0 on end at n
pub record Enters (t : Tables) (k : List ℕ) (m : Arrays) (n : ℕ) : Type 0 where
  pub at : ℕ
  pub port : port_at t (slice_index k 0) ≡ Some at
  pub fields : Follows t at k is_field m 0 n

-- from number n on, by the arrays m, the visits of the ranks below r come to number v
pub data Chained (t : Tables) (k : List ℕ) (m : Arrays) (n : ℕ) : ℕ → ℕ → Type 0 where
  begun : Chained t k m n 0 n
  visited : {w r v x : ℕ} {us : List Update} → Chained t k m n r v
      → rank_at t r ≡ Some w → Visits t w k m r v x us → Chained t k m n (r + 1) x
