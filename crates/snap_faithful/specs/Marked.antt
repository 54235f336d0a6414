-- Which nodes are reached from a root, on the way down the arena.
use Rattle.std.specs.Prelude.{◌≡◌, ℕ, ◌<◌, ◌≤◌, Bool, true, false, Some, List, [], length, slice_get, slice_index, slice_index_or, slice_set}
use Rattle.snap_core.specs.declared.policy.Test.{Test}
use Rattle.snap_diagrams.specs.declared.node.Node.{Node}
use Rattle.snap_diagrams.specs.declared.node.Node.TheVariants as node
use Rattle.snap_diagrams.specs.declared.leaf.Leaf.{Leaf}
use Rattle.snap_faithful.specs.Shown.{Leads}

abbrev pub Marked : List Bool → ℕ → Type 0
Marked reached d = slice_index_or reached d false ≡ true

-- the marks with those of a node's ways
abbrev pub with_ways : Node Leaf → List Bool → List Bool
with_ways (node.Leaf l) reached = reached
with_ways (node.Ask t y z) reached = slice_set (slice_set reached y true) z true

-- what holds once all nodes from b on are done
pub record Marks (ns : List (Node Leaf)) (root b : ℕ) (ids numbers : List ℕ) (reached : List Bool) : Type 0 where
  pub many : length numbers ≡ length ns
  pub wide : length reached ≡ length ns
  pub marked_root : Marked reached root
  pub leads : (d : ℕ) → Marked reached d → Leads ns root d
  pub seen : (d : ℕ) → Marked reached d → b ≤ d → slice_get ids (slice_index numbers d) ≡ Some d
  pub own : (i d : ℕ) → slice_get ids i ≡ Some d → (slice_index numbers d ≡ i) × (b ≤ d) × (d < length ns) × Marked reached d
  pub ways : (i d y z : ℕ) (t : Test) → slice_get ids i ≡ Some d
      → slice_get ns d ≡ Some (node.Ask t y z) → Marked reached y × Marked reached z
  pub falls : (i j d e : ℕ) → i < j → slice_get ids i ≡ Some d → slice_get ids j ≡ Some e → e < d
  pub first : b ≤ root → slice_get ids 0 ≡ Some root
  pub none : root < b → ids ≡ []
