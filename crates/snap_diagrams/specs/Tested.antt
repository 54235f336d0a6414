-- The components and arrays that a diagram tests, as marks tell.
use Rattle.std.specs.Prelude.{ℕ, List, Option, IfSome}
use Rattle.snap_context.specs.Known.{TestOver}
use Rattle.snap_core.specs.Ranges.{TestInRange}
use Rattle.snap_context.specs.declared.tested.Tested.{Tested}
use Rattle.snap_diagrams.specs.declared.node.Node.{Node}
use Rattle.snap_diagrams.specs.declared.leaf.Leaf.{Leaf}
use Rattle.snap_diagrams.specs.Diagrams.{Diagram, Only, Asks}
use Rattle.snap_diagrams.specs.Reached.{AreNoted}

-- each test is about components and arrays of two sets, and its numbers have 64 bits
abbrev pub TestsOver : Tested → Diagram → Type 0
TestsOver e (Only l) = Unit {0}
TestsOver e (Asks t y n) = TestOver e.comps e.arrays t × TestInRange t × TestsOver e y × TestsOver e n

-- what the tests of each number's diagram are about, by its place, where that is known
abbrev pub AreTested : List (Node Leaf) → List ℕ → List (Option Tested) → Type 0
AreTested = AreNoted (λ o d. IfSome o (λ e. TestsOver e d))
