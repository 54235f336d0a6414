-- What the operations on diagrams keep.
use Rattle.std.specs.Prelude.{◌≡◌, ◌<◌, ◌⊎◌, ℕ, Bool, List, if◌then◌else◌, length}
use Rattle.std.specs.declared.cmp.Ordering.TheVariants.{Less}
use Rattle.snap_core.specs.declared.policy.Test.{Test}
use Rattle.snap_core.specs.Arrays.{Arrays}
use Rattle.snap_core.specs.Tests.{passes}
use Rattle.snap_dep.specs.Ranks.{Grouping}
use Rattle.snap_context.specs.View.{View}
use Rattle.snap_diagrams.specs.declared.node.Node.{Node}
use Rattle.snap_diagrams.specs.declared.leaf.Leaf.{Leaf}
use Rattle.snap_diagrams.specs.Diagrams.{Diagram, Only, Asks, walk, diagram}
use Rattle.snap_diagrams.specs.Order.{test_cmp, Above, NotBelow, IsOrdered}
use Rattle.snap_diagrams.specs.Bounds.{Sizes, IsIn, TestIn}

-- an ordered diagram within bounds
pub record IsDiagram (ranks : List ℕ) (s : Sizes) (d : Diagram) : Type 0 where
  pub ordered : IsOrdered ranks d
  pub bounds : IsIn s d

-- where a test gives an answer
abbrev pub Where : Test → Bool → Arrays → List ℕ → Type 0
Where t b m k = passes t m k ≡ b

abbrev pub Anywhere : Arrays → List ℕ → Type 0
Anywhere m k = Unit {0}

-- r is the diagram d where the test t gives the answer b
pub record IsSide (ranks : List ℕ) (s : Sizes) (t : Test) (b : Bool) (d r : Diagram) : Type 0 where
  pub walks : (m : Arrays) (k : List ℕ) → Where t b m k → walk r m k ≡ walk d m k
  pub keeps : IsDiagram ranks s r
  pub above : (low : Test) → Above ranks low d → Above ranks low r
  pub over : NotBelow ranks t d → Above ranks t r

-- r goes as a where the test t passes, and as b where it doesn't
pub record IsPick (ranks : List ℕ) (s : Sizes) (On : Arrays → List ℕ → Type 0) (t : Test) (a b r : Diagram) : Type 0 where
  pub walks : (m : Arrays) (k : List ℕ) → On m k → walk r m k ≡ (if passes t m k then walk a m k else walk b m k)
  pub keeps : IsDiagram ranks s r
  pub above : (low : Test) → test_cmp ranks low t ≡ Less → Above ranks low a → Above ranks low b → Above ranks low r

-- the diagram begins with this test
abbrev pub StartsWith : Test → Diagram → Type 0
StartsWith t (Only l) = ⊥
StartsWith t (Asks u y n) = t ≡ u

-- the first tests of both are not before u, and u is the test or begins one of them
pub record IsLeast (ranks : List ℕ) (s : Sizes) (t : Test) (a b : Diagram) (u : Test) : Type 0 where
  pub first : NotBelow ranks u a
  pub second : NotBelow ranks u b
  pub is_in : TestIn s u
  pub which : (u ≡ t) ⊎ ((test_cmp ranks u t ≡ Less) × (StartsWith u a ⊎ StartsWith u b))

-- the lesser of a test and the first of a diagram
pub record IsLower (ranks : List ℕ) (s : Sizes) (t : Test) (d : Diagram) (u : Test) : Type 0 where
  pub not_below : NotBelow ranks u d
  pub is_in : TestIn s u
  pub which : (u ≡ t) ⊎ ((test_cmp ranks u t ≡ Less) × StartsWith u d)

-- the sizes that groups and a context tell
abbrev pub sizes : Grouping → View → Sizes
sizes g v = record { comps = length v.classes; arrays = length g.ranks }

-- what each call needs of a number, and what it keeps: an ordered diagram within bounds
pub record IsWellFormedDiagram (g : Grouping) (v : View) (ns : List (Node Leaf)) (d : ℕ) : Type 0 where
  pub below : d < length ns
  pub keeps : IsDiagram g.ranks (sizes g v) (diagram ns d)
