-- What the types say of the leaves of a diagram.
use Rattle.std.specs.Prelude.{All}
use Rattle.snap_core.specs.declared.policy.Update.{Update}
use Rattle.snap_core.specs.Laws.{OpIsSmall}
use Rattle.snap_core.specs.Tests.{IsRisingOut}
use Rattle.snap_diagrams.specs.declared.node.Node.{Node}
use Rattle.snap_diagrams.specs.declared.node.Node.TheVariants as node
use Rattle.snap_diagrams.specs.declared.leaf.Leaf.{Leaf}
use Rattle.snap_diagrams.specs.declared.leaf.Leaf.TheVariants.{Race, Go as Goes}

-- numbers have 64 bits, and the components of outs rise
abbrev pub LeafKnown : Leaf → Type 0
LeafKnown Race = Unit {0}
LeafKnown (Goes g) = All (λ (u : Update). OpIsSmall u.op) g.ups × All IsRisingOut g.outs

abbrev pub IsKnown : Node Leaf → Type 0
IsKnown (node.Leaf l) = LeafKnown l
IsKnown (node.Ask t y n) = Unit {0}
