-- Which rows the tables have.
use Rattle.std.specs.Prelude.{◌≡◌, ◌≢◌, ◌⊎◌, ℕ, ◌<◌, Bool, true, ◌&&◌, ◌==◌, nat_le, Option, Some, None, slice_get, IfSome, if◌then◌else◌}
use Rattle.std.specs.List.{list_any}
use Rattle.snap_core.specs.declared.ports.PortAt.{PortAt}
use Rattle.snap_core.specs.declared.policy.Test.{Test}
use Rattle.snap_rows.specs.declared.tables.ArrayAt.{ArrayAt}
use Rattle.snap_rows.specs.declared.tables.Hop.{Hop}
use Rattle.snap_rows.specs.declared.tables.RowAt.{RowAt}
use Rattle.snap_rows.specs.declared.tables.Tables.{Tables}
use Rattle.snap_rows.specs.declared.tables.Row.{Row}
use Rattle.snap_rows.specs.declared.tables.Row.TheVariants.{Field, State, Go, Leaf, Stop, Last}
use Rattle.snap_rows.specs.Entries.{row_at, next, rank_of, rank_at, ranks, var_of}
use Rattle.snap_rows.specs.Form.{switch_count, array_count}
use Rattle.snap_rows.specs.Rules.{IsValid, MayFollow, IsFieldRow, IsLinked}
use Rattle.snap_rows.specs.Leads.{IsNumberAfter}

-- some port is at the switch
abbrev pub has_port : Tables → ℕ → Bool
has_port t w = list_any (λ (p : PortAt). p.at == w) t.ports

-- there is any port
abbrev pub has_ports : Tables → Bool
has_ports t = list_any (λ (p : PortAt). true) t.ports

-- some array of at most this rank is at the switch
abbrev pub holds : Tables → ℕ → ℕ → Bool
holds t w q = list_any (λ (a : ArrayAt). a.at == w && nat_le a.rank q) t.arrays

abbrev pub stop_at : Tables → ℕ → Bool → Option Row
stop_at t w front = if has_port t w && front then Some Stop else None

-- the row of a switch for a number with this node: the node where it is due, and `stop` where a packet may come to it by field rows alone
abbrev pub row_for : Tables → ℕ → Bool → Option Row → Option Row
row_for t w front None = None
row_for t w front (Some (Field test y z)) = if has_port t w then Some (Field test y z) else None
row_for t w front (Some (State test y z)) = if has_ports t
    && holds t w (rank_of t (var_of test)) then Some (State test y z) else stop_at t w front
row_for t w front (Some (Last us os)) = if (if ranks t == 0 then has_port t w else has_ports t && holds t w (ranks t))
    then Some (Last us os)
    else stop_at t w front
row_for t w front (Some b) = None

abbrev pub IsNodeKind : Row → Type 0
IsNodeKind (Go x) = ⊥
IsNodeKind (Leaf ss os) = ⊥
IsNodeKind Stop = ⊥
IsNodeKind b = Unit {0}

-- no field row, and the root or a way of a field row
pub record IsFront (nodes : ℕ → Option Row) (n : ℕ) : Type 0 where
  pub body : Row
  pub is : nodes n ≡ Some body
  pub no_field : ¬ IsFieldRow body
  pub from : (n ≡ 0) ⊎ ((m : ℕ) × (test : Test) × (y : ℕ) × (z : ℕ) × (nodes m ≡ Some (Field test y z)) × IsNumberAfter (Field test y z) n)

-- nodes from a root on, whose numbers rise, in the order of ranks
pub record AreNodes (t : Tables) (nodes : ℕ → Option Row) (front : ℕ → Bool) : Type 0 where
  pub root : nodes 0 ≢ None
  pub kinds : (n : ℕ) (b : Row) → nodes n ≡ Some b → IsNodeKind b
  pub arrays : (n : ℕ) (test : Test) (y z : ℕ) → nodes n ≡ Some (State test y z) → var_of test < array_count t
  pub ways : (n x : ℕ) (b : Row) → nodes n ≡ Some b → IsNumberAfter b x → (n < x) × (nodes x ≢ None)
  pub order : (n x y z : ℕ) (test : Test) → nodes n ≡ Some (State test y z)
      → IsNumberAfter (State test y z) x → IfSome (nodes x) (MayFollow t (rank_of t (var_of test)))
  pub parents : (n : ℕ) (b : Row) → nodes n ≡ Some b → (n ≡ 0) ⊎ ((m : ℕ) × (c : Row) × (nodes m ≡ Some c) × IsNumberAfter c n)
  pub is_front : (n : ℕ) → IsFront nodes n → front n ≡ true
  pub front_is : (n : ℕ) → front n ≡ true → IsFront nodes n

-- the arrays of a rank stand together, and no rank is left out
pub record ArePlaced (t : Tables) : Type 0 where
  pub owner : (v : ℕ) (a : ArrayAt) → slice_get t.arrays v ≡ Some a → rank_at t a.rank ≡ Some a.at
  pub every : (r : ℕ) → r < ranks t → (x : ℕ) × (rank_at t r ≡ Some x)

-- each next hop is a neighbour, and nearer
pub record AreHops (t : Tables) : Type 0 where
  pub distance : ℕ → ℕ → ℕ
  pub each : (i : ℕ) (h : Hop) → slice_get t.hops i ≡ Some h → (h.from < switch_count t)
      × (h.target < switch_count t) × (next t h.from h.target ≡ h.next) × (h.from ≢ h.target)
  pub linked : (a b : ℕ) → a < switch_count t → b < switch_count t → a ≢ b → IsLinked t a (next t a b)
  pub nearer : (a b : ℕ) → a < switch_count t → b < switch_count t → a ≢ b
      → (next t a b < switch_count t) × (distance (next t a b) b < distance a b)

-- the rows are the planned ones, and no pair of switch and number stands twice
pub record ArePlanned (t : Tables) (nodes : ℕ → Option Row) (front : ℕ → Bool) : Type 0 where
  pub rows : (w n : ℕ) → row_at t w n ≡ row_for t w (front n) (nodes n)
  pub once : (i : ℕ) (r : RowAt) → slice_get t.rows i ≡ Some r → row_at t r.at r.number ≡ Some r.row

-- planned tables are valid, and their nodes are these
abbrev pub PlannedIsValid : Type 0
PlannedIsValid = (t : Tables) (nodes : ℕ → Option Row) (front : ℕ → Bool) → t.version ≡ 2
    → AreNodes t nodes front → ArePlaced t → AreHops t → ArePlanned t nodes front → IsValid t
