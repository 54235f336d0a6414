-- The nodes so far.
use Rattle.std.proofs.Common.{◌≡◌, ◌<◌, ℕ, Some}
use Rattle.std.specs.Prelude.{slice_get}
use Rattle.snap_diagrams.specs.declared.node.Node.{Node}
use Rattle.snap_diagrams.specs.declared.leaf.Leaf.{Leaf}
use Rattle.snap_make.specs.Known.{IsKnown}
use Rattle.snap_make.proofs.known.know_nodes.Given as goal

abbrev pub invariant-loop-id : goal.invariant-loop-id
invariant-loop-id l = (d : ℕ) (n : Node Leaf) → d < l.id → slice_get l.fn.nodes d ≡ Some n → IsKnown n
