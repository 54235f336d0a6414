-- Two diagrams gone down together, one to come after the other.
use Rattle.std.specs.Prelude.{◌≡◌, ℕ, ◌+◌, ◌<◌, ◌≤◌, Bool, true, false, List}
use Rattle.snap_dep.specs.Ranks.{Grouping}
use Rattle.snap_core.specs.declared.policy.Test.{Test}
use Rattle.snap_core.specs.Arrays.{Arrays}
use Rattle.snap_core.specs.Tests.{passes}
use Rattle.snap_context.specs.View.{View}
use Rattle.snap_diagrams.specs.declared.node.Node.{Node}
use Rattle.snap_diagrams.specs.declared.leaf.Leaf.{Leaf}
use Rattle.snap_diagrams.specs.Bounds.{Sizes, TestIn}
use Rattle.snap_diagrams.specs.Diagrams.{Diagram, Only, diagram}
use Rattle.snap_diagrams.specs.Leaves.{answer_of, outcome_of}
use Rattle.snap_diagrams.specs.Picks.{IsDiagram, sizes}
use Rattle.snap_compose.specs.declared.marks.Mark.{Mark}
use Rattle.snap_compose.specs.Substituted.{outcome_at}
use Rattle.snap_compose.specs.Marks.{LeafMarked}
use Rattle.snap_compose.specs.Sequence.{in_sequence}
use Rattle.snap_compose.specs.declared.expanding.Pair.{Pair}
use Rattle.snap_compose.specs.declared.expanding.Expansion.{Expansion}
use Rattle.snap_compose.specs.declared.expanding.Expansion.TheVariants.{Whole, Asked}

-- where a test gives an answer, b and then e do what a and then d do
abbrev pub SameWhere : Test → Bool → Diagram → Diagram → Diagram → Diagram → Type 0
SameWhere t given a d b e = (m : Arrays) (k : List ℕ) → passes t m k ≡ given
    → in_sequence (outcome_at b m k) (outcome_at e) ≡ in_sequence (outcome_at a m k) (outcome_at d)

-- each marked leaf, and then r, does what the leaf and then d do where a test gives an answer
pub record IsAlong (ranks : List ℕ) (s : Sizes) (mk : Mark) (t : Test) (given : Bool) (d r : Diagram) : Type 0 where
  pub keeps : IsDiagram ranks s r
  pub same : (l : Leaf) (m : Arrays) (k : List ℕ) → LeafMarked mk l → passes t m k ≡ given
      → in_sequence (outcome_of (answer_of l k) m) (outcome_at r) ≡ in_sequence (outcome_of (answer_of l k) m) (outcome_at d)

-- what is left of two diagrams where a test gives an answer
pub record IsLeft (groups : Grouping) (v : View) (ns : List (Node Leaf)) (t : Test) (given : Bool) (a d : ℕ) (p : Pair) : Type 0 where
  pub first : p.first ≤ a
  pub second : p.second ≤ d
  pub falls : p.first + p.second < a + d
  pub keeps_first : IsDiagram groups.ranks (sizes groups v) (diagram ns p.first)
  pub keeps_second : IsDiagram groups.ranks (sizes groups v) (diagram ns p.second)
  pub same : SameWhere t given (diagram ns a) (diagram ns d) (diagram ns p.first) (diagram ns p.second)

-- the first is a leaf, or a test is asked before both
pub record IsAskedFirst (groups : Grouping) (v : View) (ns : List (Node Leaf)) (a d : ℕ) (t : Test) (y n : Pair) : Type 0 where
  pub bounds : TestIn (sizes groups v) t
  pub yes : IsLeft groups v ns t true a d y
  pub no : IsLeft groups v ns t false a d n

abbrev pub IsTurn : Grouping → View → List (Node Leaf) → ℕ → ℕ → Expansion → Type 0
IsTurn groups v ns a d Whole = (l : Leaf) × (diagram ns a ≡ Only l)
IsTurn groups v ns a d (Asked t y n) = IsAskedFirst groups v ns a d t y n
