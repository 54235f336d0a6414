-- The numbers to which a packet may come by field rows alone.
use Rattle.std.specs.Prelude.{◌≡◌, ◌⊎◌, ℕ, ◌<◌, Bool, true, false, Option, Some, List, length, slice_index, slice_index_or, slice_set}
use Rattle.snap_core.specs.declared.policy.Test.{Test}
use Rattle.snap_core.specs.declared.policy.Test.TheVariants.{Value, Equal, State as StateTest}
use Rattle.snap_diagrams.specs.declared.node.Node.{Node}
use Rattle.snap_diagrams.specs.declared.node.Node.TheVariants as node
use Rattle.snap_diagrams.specs.declared.leaf.Leaf.{Leaf}
use Rattle.snap_rows.specs.declared.tables.Row.{Row}
use Rattle.snap_rows.specs.declared.tables.Row.TheVariants.{Field}
use Rattle.snap_rows.specs.Leads.{IsNumberAfter}
use Rattle.snap_faithful.specs.Shown.{IsNumbering}

-- the numbers of some root's nodes
pub record IsNumbered (ns : List (Node Leaf)) (ids numbers : List ℕ) : Type 0 where
  pub root : ℕ
  pub numbering : IsNumbering ns root ids (slice_index numbers)
  pub wide : length numbers ≡ length ns

-- the ways of a node are below n
abbrev pub HasWays : ℕ → Node Leaf → Type 0
HasWays n (node.Leaf l) = Unit {0}
HasWays n (node.Ask t y z) = (y < n) × (z < n)

-- the numbers of its ways are below n
abbrev pub AreWithin : (ℕ → ℕ) → ℕ → Node Leaf → Type 0
AreWithin number n (node.Leaf l) = Unit {0}
AreWithin number n (node.Ask t y z) = (number y < n) × (number z < n)

-- the marks with those of the ways of a test of fields
abbrev pub with_fields : (ℕ → ℕ) → Node Leaf → List Bool → List Bool
with_fields number (node.Leaf l) marks = marks
with_fields number (node.Ask (Value c n) y z) marks = slice_set (slice_set marks (number y) true) (number z) true
with_fields number (node.Ask (Equal a b n) y z) marks = slice_set (slice_set marks (number y) true) (number z) true
with_fields number (node.Ask (StateTest v ix u) y z) marks = marks

-- number i is a way of a field row of a number below b
pub record IsBehind (nodes : ℕ → Option Row) (b i : ℕ) : Type 0 where
  pub from : ℕ
  pub test : Test
  pub yes : ℕ
  pub no : ℕ
  pub low : from < b
  pub is : nodes from ≡ Some (Field test yes no)
  pub way : IsNumberAfter (Field test yes no) i

-- of so many numbers the root and the ways of the field rows of numbers below b are marked
pub record AreMarked (nodes : ℕ → Option Row) (b many : ℕ) (marks : List Bool) : Type 0 where
  pub wide : length marks ≡ many
  pub marked : (i : ℕ) → slice_index_or marks i false ≡ true → (i ≡ 0) ⊎ IsBehind nodes b i
  pub all : (i : ℕ) → i < many → (i ≡ 0) ⊎ IsBehind nodes b i → slice_index_or marks i false ≡ true
