-- Diagrams in which each way of each test is met.
use Rattle.std.specs.Prelude.{◌≡◌, ◌⊎◌, ◌<◌, ◌≤◌, ℕ, Bool, true, false, List}
use Rattle.snap_core.specs.declared.policy.Test.{Test}
use Rattle.snap_core.specs.declared.place.Entry.{Entry}
use Rattle.snap_core.specs.Arrays.{Arrays}
use Rattle.snap_core.specs.Listing.{number_in}
use Rattle.snap_core.specs.Inputs.{IsStore}
use Rattle.snap_context.specs.View.{View}
use Rattle.snap_context.specs.declared.tested.Tested.{Tested}
use Rattle.snap_diagrams.specs.declared.node.Node.{Node}
use Rattle.snap_diagrams.specs.declared.leaf.Leaf.{Leaf}
use Rattle.snap_diagrams.specs.declared.pruning.Decomposition.{Decomposition}
use Rattle.snap_diagrams.specs.declared.pruning.Decomposition.TheVariants.{Whole, Split}
use Rattle.snap_diagrams.specs.Contexts.{Met, Under}
use Rattle.snap_diagrams.specs.Diagrams.{Diagram, Only, Asks, walk, depth, diagram}
use Rattle.snap_diagrams.specs.Order.{Above}
use Rattle.snap_diagrams.specs.Bounds.{Sizes}
use Rattle.snap_diagrams.specs.Picks.{IsDiagram, Where}
use Rattle.snap_diagrams.specs.Tested.{TestsOver}

-- some finite store and some packet are of a set of them
pub record Someone (P : Arrays → List ℕ → Type 0) : Type 0 where
  pub entries : List Entry
  pub packet : List ℕ
  pub store : IsStore (number_in entries)
  pub is : P (number_in entries) packet

-- those of a set on which a test gives an answer
abbrev pub With : (Arrays → List ℕ → Type 0) → Test → Bool → Arrays → List ℕ → Type 0
With P t b m k = P m k × Where t b m k

-- each way of each test is met by one of a set that goes there
abbrev pub IsLive : (Arrays → List ℕ → Type 0) → Diagram → Type 0
IsLive P (Only l) = Unit {0}
IsLive P (Asks t y n) = Someone (With P t true) × Someone (With P t false) × IsLive (With P t true) y × IsLive (With P t false) n

-- r is d, with no test more, without the ways that no store and packet that meet the context go
pub record IsPruned (ranks : List ℕ) (s : Sizes) (v : View) (d r : Diagram) : Type 0 where
  pub walks : Under v (λ m k. walk r m k ≡ walk d m k)
  pub keeps : IsDiagram ranks s r
  pub above : (low : Test) → Above ranks low d → Above ranks low r
  pub live : IsLive (Met v) r
  pub tests : (e : Tested) → TestsOver e d → TestsOver e r
  pub short : depth r ≤ depth d

-- the diagram of a test with two ways, which is that of both where they are one
abbrev pub IsShaped : Test → Diagram → Diagram → Diagram → Type 0
IsShaped t a b r = (r ≡ Asks t a b) ⊎ ((r ≡ a) × (a ≡ b))

-- a diagram's test and ways
abbrev pub IsPart : List (Node Leaf) → ℕ → Decomposition → Type 0
IsPart ns d Whole = (l : Leaf) × (diagram ns d ≡ Only l)
IsPart ns d (Split t y n) = (diagram ns d ≡ Asks t (diagram ns y) (diagram ns n)) × (y < d) × (n < d)
