-- The diagram that a number stands for, and the leaf to which it walks.
use Rattle.std.specs.Prelude.{◌≡◌, ℕ, ◌+◌, ◌<◌, max, List, [], ◌∷◌, ◌++◌, slice_index_or, if◌then◌else◌, Option}
use Rattle.snap_core.specs.declared.policy.Test.{Test}
use Rattle.snap_core.specs.Arrays.{Arrays}
use Rattle.snap_core.specs.Tests.{passes}
use Rattle.snap_diagrams.specs.declared.node.Node.{Node}
use Rattle.snap_diagrams.specs.declared.node.Node.TheVariants as node
use Rattle.snap_diagrams.specs.declared.leaf.Leaf.{Leaf}
use Rattle.snap_diagrams.specs.declared.leaf.Leaf.TheVariants.{Race}
use Rattle.snap_diagrams.specs.Leaves.{Answer, answer_of}

pub data Diagram : Type 0 where
  Only : Leaf → Diagram
  Asks : Test → Diagram → Diagram → Diagram

-- a node's diagram, over the diagrams of the nodes before it
abbrev pub made : List Diagram → Node Leaf → Diagram
made ds (node.Leaf l) = Only l
made ds (node.Ask t y n) = Asks t (slice_index_or ds y (Only Race)) (slice_index_or ds n (Only Race))

-- the diagrams of all nodes, from the first to the last
abbrev pub grown : List Diagram → List (Node Leaf) → List Diagram
grown ds [] = ds
grown ds (n ∷ ns) = grown (ds ++ made ds n ∷ []) ns

-- the diagram of a number
abbrev pub diagram : List (Node Leaf) → ℕ → Diagram
diagram ns d = slice_index_or (grown [] ns) d (Only Race)

-- the leaf to which a diagram walks
abbrev pub walk : Diagram → Arrays → List ℕ → Leaf
walk (Only l) m k = l
walk (Asks t y n) m k = if passes t m k then walk y m k else walk n m k

-- the answer of a number on a store and a packet
abbrev pub answer : List (Node Leaf) → ℕ → Arrays → List ℕ → Option Answer
answer ns d m k = answer_of (walk (diagram ns d) m k) k

-- what the node at a number says of its diagram
abbrev pub IsNodeOf : List (Node Leaf) → ℕ → Node Leaf → Type 0
IsNodeOf ns d (node.Leaf l) = diagram ns d ≡ Only l
IsNodeOf ns d (node.Ask t y n) = (diagram ns d ≡ Asks t (diagram ns y) (diagram ns n)) × (y < d) × (n < d)

-- the length of the longest path
abbrev pub depth : Diagram → ℕ
depth (Only l) = 0
depth (Asks t y n) = 1 + max (depth y) (depth n)
