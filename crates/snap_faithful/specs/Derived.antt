-- Which pairs of switch and number have a row, before there are rows.
use Rattle.std.specs.Prelude.{◌≡◌, ◌≢◌, ℕ, Bool, true, Option, Some, None, Contains, slice_get, option_map, if◌then◌else◌}
use Rattle.snap_rows.specs.declared.tables.RowAt.{RowAt}
use Rattle.snap_rows.specs.declared.tables.Tables.{Tables}
use Rattle.snap_rows.specs.declared.tables.Row.{Row}
use Rattle.snap_rows.specs.Entries.{row_at}
use Rattle.snap_rows.specs.Ways.{LeadsTo}
use Rattle.snap_faithful.specs.OnDemand.{row_on, place_of, HasNodes, AreOnDemand}

-- a pair is wanted: a port is at the switch and the number is 0, or the row of a wanted pair leads to it
pub data IsWanted (t : Tables) (nodes : ℕ → Option Row) : ℕ → ℕ → Type 0 where
  at_port : {p w : ℕ} → Contains t.ports (record { port = p; at = w }) → IsWanted t nodes w 0
  onward : {w n x k : ℕ} {c : Row} → IsWanted t nodes w n → nodes n ≡ Some c
      → LeadsTo t w n (row_on (place_of t) w c) x k → IsWanted t nodes x k

-- the marks are of exactly the wanted pairs, and the rows are those of the marked ones, each once
pub record AreMarked (t : Tables) (nodes : ℕ → Option Row) (has : ℕ → ℕ → Bool) : Type 0 where
  pub rows : (w n : ℕ) → row_at t w n ≡ (if has w n then option_map (row_on (place_of t) w) (nodes n) else None)
  pub once : (i : ℕ) (r : RowAt) → slice_get t.rows i ≡ Some r → row_at t r.at r.number ≡ Some r.row
  pub sound : (w n : ℕ) → has w n ≡ true → IsWanted t nodes w n
  pub whole : (w n : ℕ) → IsWanted t nodes w n → has w n ≡ true

-- then the rows are those on demand
abbrev pub DerivedIsOnDemand : Type 0
DerivedIsOnDemand = (t : Tables) (nodes : ℕ → Option Row) (has : ℕ → ℕ → Bool) → t.version ≡ 1
    → HasNodes t nodes → nodes 0 ≢ None → AreMarked t nodes has → AreOnDemand t nodes
