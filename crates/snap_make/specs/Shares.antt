-- The rows of switches, as they share the bodies of their numbers.
use Rattle.std.specs.Prelude.{◌≡◌, ℕ, Bool, false, Option, List, ◌++◌, length, map, slice_get, slice_index, slice_index_or, unwrap_or}
use Rattle.std.specs.List.{range_with_len}
use Rattle.snap_diagrams.specs.declared.node.Node.{Node}
use Rattle.snap_diagrams.specs.declared.leaf.Leaf.{Leaf}
use Rattle.snap_rows.specs.Bodies.{placed}
use Rattle.snap_rows.specs.declared.lists.Placed.{Placed}
use Rattle.snap_rows.specs.declared.tables.Row.{Row}
use Rattle.snap_rows.specs.declared.tables.Row.TheVariants as row
use Rattle.snap_rows.specs.declared.tables.RowAt.{RowAt}
use Rattle.snap_rows.specs.declared.tables.Tables.{Tables}
use Rattle.snap_faithful.specs.Generated.{numbered_nodes}
use Rattle.snap_faithful.specs.Planned.{row_for}
use Rattle.snap_faithful.specs.Shown.{IsNumbering}
use Rattle.snap_make.specs.Fronts.{AreMarked}
use Rattle.snap_make.specs.Pairs.{Entry, at_switches, row_entry}

-- the row of a number's node
abbrev pub body_of : List (Node Leaf) → List ℕ → List ℕ → ℕ → Row
body_of ns ids numbers i = unwrap_or (numbered_nodes ns ids (slice_index numbers) i) row.Stop

-- the bodies of numbers, and behind them `stop` for each
abbrev pub with_stop : List Row → List Row
with_stop bodies = bodies ++ map (λ b. row.Stop) bodies

abbrev pub entries : List Row → List Placed → List (Entry Row)
entries bodies rows = map (λ p. row_entry (placed bodies p)) rows

-- these stand behind the rows that there were
abbrev pub Adds : (bodies : List Row) → (old : List Placed) → List (Entry Row) → (new : List Placed) → Type 0
Adds bodies old more new = entries bodies new ≡ entries bodies old ++ more

-- the row of a switch and number
abbrev pub shown : Tables → List Row → List Bool → ℕ → ℕ → Option Row
shown t bodies marks w n = row_for t w (slice_index_or marks n false) (slice_get bodies n)

-- the rows of all switches, for some marks of the numbers to which field rows lead
pub record AreShares (t : Tables) (ns : List (Node Leaf)) (ids numbers : List ℕ) (bodies : List Row) (rows : List RowAt) : Type 0 where
  pub marks : List Bool
  pub marked : AreMarked (numbered_nodes ns ids (slice_index numbers)) (length ids) (length ids) marks
  pub are : map row_entry rows ≡ at_switches (shown t bodies marks) (length t.switches) (length bodies)

-- the rows of some numbers of a root's nodes
pub record AreRows (t : Tables) (ns : List (Node Leaf)) (root : ℕ) (rows : List RowAt) : Type 0 where
  pub ids : List ℕ
  pub numbers : List ℕ
  pub numbering : IsNumbering ns root ids (slice_index numbers)
  pub wide : length numbers ≡ length ns
  pub bodies : List Row
  pub bodies_are : bodies ≡ map (body_of ns ids numbers) (range_with_len 0 (length ids))
  pub shares_are : AreShares t ns ids numbers bodies rows
