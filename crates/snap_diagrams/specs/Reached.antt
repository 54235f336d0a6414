-- What is noted of the nodes that are reached, by their places.
use Rattle.std.specs.Prelude.{◌≡◌, ℕ, ◌<◌, List, Some, length, slice_get}
use Rattle.snap_diagrams.specs.declared.node.Node.{Node}
use Rattle.snap_diagrams.specs.declared.leaf.Leaf.{Leaf}
use Rattle.snap_diagrams.specs.Diagrams.{Diagram, diagram}

-- what is noted at each place holds of the diagram of the number there
abbrev pub AreNoted : {X : Type 0} → (X → Diagram → Type 0) → List (Node Leaf) → List ℕ → List X → Type 0
AreNoted Is ns ids notes = (p d : ℕ) (x : _) → slice_get ids p ≡ Some d → slice_get notes p ≡ Some x → (d < length ns) × Is x (diagram ns d)
