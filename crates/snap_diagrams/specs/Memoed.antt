-- What a memo of one call remembers.
use Rattle.std.specs.Prelude.{◌≡◌, ℕ, ◌<◌, ◌≤◌, ◌^◌, List, [], ◌∷◌, Some, length, slice_get, ⊤}
use Rattle.snap_core.specs.declared.policy.Test.{Test}
use Rattle.snap_core.specs.Cells.{Cells}
use Rattle.snap_dep.specs.Ranks.{Grouping}
use Rattle.snap_context.specs.Known.{IsKnown}
use Rattle.snap_context.specs.View.{View, IsContext}
use Rattle.snap_context.specs.declared.tested.Tested.{Tested}
use Rattle.snap_diagrams.specs.declared.node.Node.{Node}
use Rattle.snap_diagrams.specs.Memos.{Remembers}
use Rattle.snap_diagrams.specs.declared.leaf.Leaf.{Leaf}
use Rattle.snap_diagrams.specs.Diagrams.{depth, diagram}
use Rattle.snap_diagrams.specs.Bounds.{Sizes, TestIn}
use Rattle.snap_diagrams.specs.Picks.{IsPick, Anywhere, IsWellFormedDiagram, sizes}
use Rattle.snap_diagrams.specs.Places.{ArePlaced}
use Rattle.snap_diagrams.specs.Pruned.{IsPruned}
use Rattle.snap_diagrams.specs.Quiet.{IsMarked}
use Rattle.snap_diagrams.specs.Tested.{AreTested, TestsOver}
use Rattle.snap_diagrams.specs.declared.pruning.PruningPlan.{PruningPlan}

-- the number d is that of a test before two diagrams
pub record IsPicked (ranks : List ℕ) (s : Sizes) (t : Test) (ns : List (Node Leaf)) (a b d : ℕ) : Type 0 where
  pub first : a < length ns
  pub second : b < length ns
  pub number : d < length ns
  pub pick : IsPick ranks s Anywhere t (diagram ns a) (diagram ns b) (diagram ns d)

-- numbers for pairs of diagrams
abbrev pub PickedFor : List ℕ → Sizes → Test → List (Node Leaf) → List ℕ → ℕ → Type 0
PickedFor ranks s t ns (a ∷ b ∷ []) d = IsPicked ranks s t ns a b d
PickedFor ranks s t ns q d = ⊤

-- what is asked for a test before two diagrams: all fit, and the memo is the test's
pub record IsAskedPick (g : Grouping) (v : View) (t : Test) (ns : List (Node Leaf)) (memo : Cells) (a b : ℕ) : Type 0 where
  pub first : IsWellFormedDiagram g v ns a
  pub second : IsWellFormedDiagram g v ns b
  pub test : TestIn (sizes g v) t
  pub known : Remembers (PickedFor g.ranks (sizes g v) t ns) memo

-- what was looked up of the nodes before pruning
pub record IsPlan (plan : PruningPlan) (ns : List (Node Leaf)) : Type 0 where
  pub marked : IsMarked plan.survey ns plan.reached.ids.items plan.quiet.items
  pub placed : ArePlaced plan.spelling ns plan.reached.ids.items plan.places.items
  pub tested : AreTested ns plan.reached.ids.items plan.tested.items

-- the number's place, and what is noted there of its tests
pub record IsNotedAt (plan : PruningPlan) (place d : ℕ) (e : Tested) : Type 0 where
  pub number : slice_get plan.reached.ids.items place ≡ Some d
  pub mark : slice_get plan.tested.items place ≡ Some (Some e)

-- the numbers tell what a context knows about what a diagram tests
pub record IsKeyFor (e : Tested) (ns : List (Node Leaf)) (v : View) (d : ℕ) (key : List ℕ) : Type 0 where
  pub context : IsContext v
  pub few : length v.facts ≤ 2 ^ 31
  pub low : depth (diagram ns d) ≤ 2 ^ 30
  pub over : TestsOver e (diagram ns d)
  pub known : IsKnown v e.comps e.arrays key

-- a diagram's place, and what a context knows about what it tests
pub record IsKey (plan : PruningPlan) (ns : List (Node Leaf)) (v : View) (d : ℕ) (key : List ℕ) : Type 0 where
  pub place : ℕ
  pub told : List ℕ
  pub tested : Tested
  pub is : key ≡ place ∷ told
  pub noted : IsNotedAt plan place d tested
  pub tells : IsKeyFor tested ns v d told

-- the diagram of a place was pruned under a context of which this is known
pub record IsRemembered (ranks : List ℕ) (s : Sizes) (plan : PruningPlan) (ns : List (Node Leaf)) (place : ℕ) (key : List ℕ) (r : ℕ) : Type 0 where
  pub id : ℕ
  pub tested : Tested
  pub noted : IsNotedAt plan place id tested
  pub first : id < length ns
  pub number : r < length ns
  pub view : View
  pub size : length view.classes ≡ s.comps
  pub told : IsKeyFor tested ns view id key
  pub pruned : IsPruned ranks s view (diagram ns id) (diagram ns r)

-- numbers for places and what is known about the tests there
abbrev pub PrunedFor : List ℕ → Sizes → PruningPlan → List (Node Leaf) → List ℕ → ℕ → Type 0
PrunedFor ranks s plan ns [] r = ⊤
PrunedFor ranks s plan ns (place ∷ key) r = IsRemembered ranks s plan ns place key r

-- what is asked for a diagram pruned: it and the plan fit the nodes, and the memo is the plan's
pub record IsAskedPruned (g : Grouping) (v : View) (plan : PruningPlan) (ns : List (Node Leaf)) (memo : Cells) (d : ℕ) : Type 0 where
  pub first : IsWellFormedDiagram g v ns d
  pub planned : IsPlan plan ns
  pub known : Remembers (PrunedFor g.ranks (sizes g v) plan ns) memo
