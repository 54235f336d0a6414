-- The nodes of a diagram as the nodes of tables.
use Rattle.std.specs.Prelude.{◌≡◌, ℕ, ◌<◌, Some, List, [], length, slice_get}
use Rattle.snap_core.specs.declared.place.Place.{Place}
use Rattle.snap_core.specs.declared.policy.Test.{Test}
use Rattle.snap_core.specs.declared.policy.Test.TheVariants.{Value, Equal, State as StateTest}
use Rattle.snap_core.specs.declared.program.Program.{Program}
use Rattle.snap_core.specs.Arrays.{Arrays, updates}
use Rattle.snap_core.specs.Fields.{count}
use Rattle.snap_core.specs.Inputs.{IsStore, IsPacket, IsInput}
use Rattle.snap_core.specs.Meaning.{Meaning, eval}
use Rattle.snap_core.specs.Tests.{results}
use Rattle.snap_diagrams.specs.declared.node.Node.{Node}
use Rattle.snap_diagrams.specs.declared.node.Node.TheVariants as node
use Rattle.snap_diagrams.specs.Arena.{IsArena}
use Rattle.snap_diagrams.specs.declared.leaf.Leaf.{Leaf}
use Rattle.snap_diagrams.specs.declared.leaf.Leaf.TheVariants.{Race, Go as Goes}
use Rattle.snap_diagrams.specs.Diagrams.{Diagram, Only, Asks, diagram, walk}
use Rattle.snap_diagrams.specs.Pruned.{IsLive}
use Rattle.snap_rows.specs.declared.tables.Tables.{Tables}
use Rattle.snap_rows.specs.declared.tables.Row.{Row}
use Rattle.snap_rows.specs.declared.tables.Row.TheVariants.{Field, State, Last}
use Rattle.snap_rows.specs.Entries.{node_of}
use Rattle.snap_faithful.specs.Facts.{HasMeaning}
use Rattle.snap_faithful.specs.Faithful.{IsLiveAndReduced}

-- a node, with the numbers of its ways, as a row
abbrev pub row_of : (ℕ → ℕ) → Node Leaf → Row
row_of number (node.Leaf Race) = Last [] []
row_of number (node.Leaf (Goes g)) = Last g.ups g.outs
row_of number (node.Ask (Value c n) y z) = Field (Value c n) (number y) (number z)
row_of number (node.Ask (Equal a b n) y z) = Field (Equal a b n) (number y) (number z)
row_of number (node.Ask (StateTest v ix x) y z) = State (StateTest v ix x) (number y) (number z)

-- a chain of ways leads from the root to a node
pub data Leads (ns : List (Node Leaf)) (root : ℕ) : ℕ → Type 0 where
  here : Leads ns root root
  yes_way : {d y z : ℕ} {t : Test} → Leads ns root d → slice_get ns d ≡ Some (node.Ask t y z) → Leads ns root y
  no_way : {d y z : ℕ} {t : Test} → Leads ns root d → slice_get ns d ≡ Some (node.Ask t y z) → Leads ns root z

-- the nodes below the root have numbers, from 0 at the root, which rise along each way
pub record IsNumbering (ns : List (Node Leaf)) (root : ℕ) (ids : List ℕ) (number : ℕ → ℕ) : Type 0 where
  pub first : slice_get ids 0 ≡ Some root
  pub own : (i d : ℕ) → slice_get ids i ≡ Some d → number d ≡ i
  pub nodes : (i d : ℕ) → slice_get ids i ≡ Some d → d < length ns
  pub yes_side : (i d y z : ℕ) (t : Test) → slice_get ids i ≡ Some d
      → slice_get ns d ≡ Some (node.Ask t y z) → (i < number y) × (slice_get ids (number y) ≡ Some y)
  pub no_side : (i d y z : ℕ) (t : Test) → slice_get ids i ≡ Some d
      → slice_get ns d ≡ Some (node.Ask t y z) → (i < number z) × (slice_get ids (number z) ≡ Some z)
  pub reached : (i d : ℕ) → slice_get ids i ≡ Some d → Leads ns root d

-- the row of the node that has this number
pub record IsOf (ns : List (Node Leaf)) (ids : List ℕ) (number : ℕ → ℕ) (i : ℕ) (b : Row) : Type 0 where
  pub id : ℕ
  pub node : Node Leaf
  pub at : slice_get ids i ≡ Some id
  pub is : slice_get ns id ≡ Some node
  pub row : b ≡ row_of number node

-- the nodes of the tables are the numbered ones; all of them, where there is any row
pub record Shows (ns : List (Node Leaf)) (ids : List ℕ) (number : ℕ → ℕ) (t : Tables) : Type 0 where
  pub each : (i : ℕ) (b : Row) → node_of t i ≡ Some b → IsOf ns ids number i b
  pub all : (j : ℕ) (c : Row) → node_of t j ≡ Some c → (i : ℕ) (b : Row) → IsOf ns ids number i b → node_of t i ≡ Some b

-- the leaf leaves the arrays and gives the packets of an outcome
abbrev pub LeafGives : Leaf → Arrays → List ℕ → Meaning → Type 0
LeafGives Race m k o = ⊥
LeafGives (Goes g) m k o = (o.packets ≡ results g.outs k) × ((q : Place) → o.arrays q ≡ updates m g.ups k q)

-- the diagram does what the program does
abbrev pub IsOutcomeOf : Program → Diagram → Type 0
IsOutcomeOf p d = (m : Arrays) (k : List ℕ) (o : Meaning) → IsStore m
    → IsPacket (count p.fields) k → eval p.body m k ≡ Some o → LeafGives (walk d m k) m k o

-- tables that show the diagram mean the program
abbrev pub ShownTablesMean : Type 0
ShownTablesMean = (p : Program) (ns : List (Node Leaf)) (root : ℕ) (ids : List ℕ) (number : ℕ → ℕ) (t : Tables)
    → IsArena ns → IsNumbering ns root ids number → Shows ns ids number t
    → IsOutcomeOf p (diagram ns root) → HasMeaning p.body (count p.fields) t

-- no race, and no logs
abbrev pub IsBare : Leaf → Type 0
IsBare Race = ⊥
IsBare (Goes g) = (g.reads ≡ 0) × (g.writes ≡ 0)

abbrev pub HasBareLeaves : Diagram → Type 0
HasBareLeaves (Only l) = IsBare l
HasBareLeaves (Asks t y n) = HasBareLeaves y × HasBareLeaves n

-- tables that show a live diagram with bare leaves are live and reduced
abbrev pub ShownTablesAreLive : Type 0
ShownTablesAreLive = (p : Program) (ns : List (Node Leaf)) (root : ℕ) (ids : List ℕ) (number : ℕ → ℕ) (t : Tables)
    → IsArena ns → IsNumbering ns root ids number → Shows ns ids number t
    → IsLive (IsInput (count p.fields) (length p.arrays)) (diagram ns root) → HasBareLeaves (diagram ns root) → IsLiveAndReduced p t
