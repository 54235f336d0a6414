-- A tidied diagram of a program.
use Rattle.std.specs.Prelude.{◌≡◌, ℕ, ◌<◌, Some, List, length, slice_get}
use Rattle.snap_core.specs.declared.program.Program.{Program}
use Rattle.snap_dep.specs.Ranks.{Grouping}
use Rattle.snap_diagrams.specs.declared.node.Node.{Node}
use Rattle.snap_diagrams.specs.declared.leaf.Leaf.{Leaf}
use Rattle.snap_diagrams.specs.Diagrams.{diagram}
use Rattle.snap_build.specs.Whole.{IsWhole}
use Rattle.snap_faithful.specs.Tidied.{Tidies}
use Rattle.snap_make.specs.Known.{IsKnown}

-- the tidied diagram of some nodes that are the program's whole diagram, and hold what their types say
pub record IsTidy (p : Program) (groups : Grouping) (ns : List (Node Leaf)) (root : ℕ) : Type 0 where
  pub old : List (Node Leaf)
  pub old_root : ℕ
  pub whole : IsWhole p groups old old_root
  pub known : (d : ℕ) (n : Node Leaf) → slice_get old d ≡ Some n → IsKnown n
  pub below : root < length ns
  pub tidies : Tidies groups.ranks (length groups.order) (diagram old old_root) (diagram ns root)
