-- One of two diagrams, by a predicate.
use Rattle.std.specs.Prelude.{◌≡◌, ℕ, List, Option, if◌then◌else◌}
use Rattle.snap_core.specs.Arrays.{Arrays}
use Rattle.snap_diagrams.specs.declared.node.Node.{Node}
use Rattle.snap_diagrams.specs.declared.leaf.Leaf.{Leaf}
use Rattle.snap_diagrams.specs.Leaves.{Answer}
use Rattle.snap_diagrams.specs.Diagrams.{Diagram, answer, walk}
use Rattle.snap_diagrams.specs.Bounds.{Sizes}
use Rattle.snap_diagrams.specs.Picks.{IsDiagram}
use Rattle.snap_compose.specs.Joined.{logged_leaf}
use Rattle.snap_compose.specs.Predicates.{holds, more_reads, passed, reads}

-- the leaf of p where the predicate x passes, and else that of q, with what x reads
abbrev pub chosen_leaf : Diagram → Diagram → Diagram → Arrays → List ℕ → Leaf
chosen_leaf x p q m k = logged_leaf (walk x m k) (if passed (walk x m k) then walk p m k else walk q m k)

-- and the answer
abbrev pub chosen_answer : List (Node Leaf) → ℕ → ℕ → ℕ → Arrays → List ℕ → Option Answer
chosen_answer ns x p q m k = more_reads (reads ns x m k) (if holds ns x m k then answer ns p m k else answer ns q m k)

pub record IsChosen (ranks : List ℕ) (s : Sizes) (x p q r : Diagram) : Type 0 where
  pub walks : (m : Arrays) (k : List ℕ) → walk r m k ≡ chosen_leaf x p q m k
  pub keeps : IsDiagram ranks s r
