-- What comes after an out and updates that are not yet done.
use Rattle.std.specs.Prelude.{◌≡◌, ℕ, List, Option}
use Rattle.snap_dep.specs.Ranks.{Grouping}
use Rattle.snap_core.specs.declared.policy.Atom.{Atom}
use Rattle.snap_core.specs.declared.policy.Update.{Update}
use Rattle.snap_core.specs.Arrays.{Arrays, updates}
use Rattle.snap_core.specs.Meaning.{Meaning}
use Rattle.snap_core.specs.Tests.{after_out}
use Rattle.snap_core.specs.Inputs.{IsStore}
use Rattle.snap_context.specs.View.{View}
use Rattle.snap_diagrams.specs.declared.node.Node.{Node}
use Rattle.snap_diagrams.specs.declared.leaf.Leaf.{Leaf}
use Rattle.snap_diagrams.specs.Contexts.{Met}
use Rattle.snap_diagrams.specs.Diagrams.{Diagram, walk, answer}
use Rattle.snap_diagrams.specs.Leaves.{answer_of, outcome_of}
use Rattle.snap_diagrams.specs.Picks.{IsDiagram, sizes}
use Rattle.snap_compose.specs.Marks.{LeafLogsUpdates, LogsUpdates}

-- on every store of 64-bit numbers and packet that meet the context
abbrev pub OnStores : View → (Arrays → List ℕ → Type 0) → Type 0
OnStores v P = (m : Arrays) (k : List ℕ) → Met v m k → IsStore m → P m k

-- the outcome of a diagram, and of a number
abbrev pub outcome_at : Diagram → Arrays → List ℕ → Option Meaning
outcome_at d m k = outcome_of (answer_of (walk d m k) k) m

abbrev pub outcome : List (Node Leaf) → ℕ → Arrays → List ℕ → Option Meaning
outcome ns d m k = outcome_of (answer ns d m k) m

-- the outcome on the store after updates and the packet after an out
abbrev pub late : Diagram → List (ℕ × Atom) → List Update → Arrays → List ℕ → Option Meaning
late d out ups m k = outcome_at d (updates m ups k) (after_out out k)

-- r goes to a leaf whose answer, taken at the store after the updates, is the late outcome of d, and which logs its updates
-- where those of d do
pub record IsLate (groups : Grouping) (v : View) (out : List (ℕ × Atom)) (ups : List Update) (d r : Diagram) : Type 0 where
  pub late : OnStores v (λ m k. outcome_of (answer_of (walk r m k) k) (updates m ups k) ≡ late d out ups m k)
  pub logs : LogsUpdates d → OnStores v (λ m k. LeafLogsUpdates (walk r m k))
  pub keeps : IsDiagram groups.ranks (sizes groups v) r
