-- Which nodes of a diagram have images: the numbers of their tidied diagrams.
use Rattle.std.specs.Prelude.{◌≡◌, ℕ, ◌<◌, ◌≤◌, Some, List, length, slice_get, slice_index}
use Rattle.snap_core.specs.declared.policy.Test.{Test}
use Rattle.snap_dep.specs.Ranks.{Grouping}
use Rattle.snap_diagrams.specs.declared.node.Node.{Node}
use Rattle.snap_diagrams.specs.declared.node.Node.TheVariants as node
use Rattle.snap_diagrams.specs.Arena.{ExtendsArena}
use Rattle.snap_diagrams.specs.declared.leaf.Leaf.{Leaf}
use Rattle.snap_diagrams.specs.Diagrams.{diagram}
use Rattle.snap_faithful.specs.Tidied.{Tidies}

-- the image of d is the number of its tidied diagram
pub record HasImage (g : Grouping) (ns : List (Node Leaf)) (images : List ℕ) (d : ℕ) : Type 0 where
  pub within : d < length images
  pub stands : d < length ns
  pub below : slice_index images d < length ns
  pub tidied : Tidies g.ranks (length g.order) (diagram ns d) (diagram ns (slice_index images d))

abbrev pub WaysHaveImages : Grouping → List (Node Leaf) → List ℕ → ℕ → Type 0
WaysHaveImages g ns images d = (y z : ℕ) (t : Test)
    → slice_get ns d ≡ Some (node.Ask t y z) → HasImage g ns images y × HasImage g ns images z

-- what holds once all numbered nodes from number i on have images, among nodes that grew
pub record HaveImages (g : Grouping) (old new : List (Node Leaf)) (ids images : List ℕ) (i : ℕ) : Type 0 where
  pub extends_arena : ExtendsArena old new
  pub wide : length images ≡ length old
  pub each : (j d : ℕ) → i ≤ j → slice_get ids j ≡ Some d → HasImage g new images d
