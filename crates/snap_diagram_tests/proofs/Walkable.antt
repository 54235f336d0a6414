-- Packets that a diagram can be walked on.
use Rattle.std.proofs.Common.{◌≡◌, ℕ, List, length, sym}
use Rattle.snap_dep.specs.Ranks.{Grouping}
use Rattle.snap_context.specs.View.{View}
use Rattle.snap_diagrams.specs.declared.node.Node.{Node}
use Rattle.snap_diagrams.specs.declared.leaf.Leaf.{Leaf}
use Rattle.snap_diagrams.specs.Bounds.{Sizes, IsIn}
use Rattle.snap_diagrams.specs.Diagrams.{diagram}
use Rattle.snap_diagrams.specs.Picks.{IsWellFormedDiagram, sizes}

pub walkable : (g : Grouping) (v : View) (ns : List (Node Leaf)) (d : ℕ) (k : List ℕ) → IsWellFormedDiagram g v ns d → length k ≡ length v.classes → (s : Sizes) × (s.comps ≡ length k) × IsIn s (diagram ns d)
walkable g v ns d k a l = (sizes g v, sym l, a.keeps.bounds)
