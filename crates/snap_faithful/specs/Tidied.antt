-- A diagram with its leaves tidied, in which a test whose ways become one is left out.
use Rattle.std.specs.Prelude.{ℕ, ◌<◌, List, All, length, slice_index}
use Rattle.snap_core.specs.Tests.{IsRisingOut}
use Rattle.snap_core.specs.declared.policy.Update.{Update}
use Rattle.snap_core.specs.declared.policy.Test.{Test}
use Rattle.snap_core.specs.declared.program.Program.{Program}
use Rattle.snap_core.specs.Arrays.{Arrays}
use Rattle.snap_core.specs.Fields.{count}
use Rattle.snap_core.specs.Inputs.{IsInput}
use Rattle.snap_core.specs.Laws.{OpIsSmall}
use Rattle.snap_diagrams.specs.declared.leaf.Leaf.{Leaf}
use Rattle.snap_diagrams.specs.declared.leaf.Leaf.TheVariants.{Race, Go as Goes}
use Rattle.snap_diagrams.specs.Diagrams.{Diagram, Only, Asks, walk}
use Rattle.snap_diagrams.specs.Order.{Above, IsOrdered}
use Rattle.snap_diagrams.specs.Pruned.{IsLive}
use Rattle.snap_faithful.specs.Leaves.{IsTidy}
use Rattle.snap_faithful.specs.Shown.{IsOutcomeOf, HasBareLeaves}

-- over ranks below n
pub data Tidies (ranks : List ℕ) (n : ℕ) : Diagram → Diagram → Type 0 where
  leaf : {l r : Leaf} → IsTidy ranks n l r → Tidies ranks n (Only l) (Only r)
  test : {t : Test} {y z a b : Diagram} → Tidies ranks n y a → Tidies ranks n z b → Tidies ranks n (Asks t y z) (Asks t a b)
  merged : {t : Test} {y z a : Diagram} → Tidies ranks n y a → Tidies ranks n z a → Tidies ranks n (Asks t y z) a

-- no race; the updates have ranks below n and put numbers of 64 bits, and the components of outs rise
abbrev pub IsLeafOf : List ℕ → ℕ → Leaf → Type 0
IsLeafOf ranks n Race = ⊥
IsLeafOf ranks n (Goes g) = All (λ (u : Update). (slice_index ranks u.var < n) × OpIsSmall u.op) g.ups × All IsRisingOut g.outs

abbrev pub HasLeavesOf : List ℕ → ℕ → Diagram → Type 0
HasLeavesOf ranks n (Only l) = IsLeafOf ranks n l
HasLeavesOf ranks n (Asks t y z) = HasLeavesOf ranks n y × HasLeavesOf ranks n z

-- what a diagram keeps: its walks, its outcome, its order, and that it is live; its leaves become bare
pub record TidyingKeeps (ranks : List ℕ) (n : ℕ) (d r : Diagram) : Type 0 where
  pub walks : (m : Arrays) (k : List ℕ) → IsTidy ranks n (walk d m k) (walk r m k)
  pub outcome : (p : Program) → HasLeavesOf ranks n d → IsOutcomeOf p d → IsOutcomeOf p r
  pub order : (list : List ℕ) → IsOrdered list d → IsOrdered list r
  pub above : (list : List ℕ) (low : Test) → IsOrdered list d → Above list low d → Above list low r
  pub live : (p : Program) → IsLive (IsInput (count p.fields) (length p.arrays)) d → IsLive (IsInput (count p.fields) (length p.arrays)) r
  pub bare : HasLeavesOf ranks n d → HasBareLeaves r

abbrev pub TidyingIsSafe : Type 0
TidyingIsSafe = (ranks : List ℕ) (n : ℕ) (d r : Diagram) → Tidies ranks n d r → TidyingKeeps ranks n d r
