-- Facts that no test of a diagram bears on.
use Rattle.std.specs.Prelude.{◌≡◌, ◌≢◌, ◌⊎◌, ℕ, ◌+◌, ◌<◌, ◌≤◌, true, List, length}
use Rattle.std.specs.declared.cmp.Ordering.TheVariants.{Less}
use Rattle.std.specs.List.{All}
use Rattle.snap_core.specs.declared.policy.Atom.{Atom}
use Rattle.snap_core.specs.declared.policy.Atom.TheVariants.{Num as Number}
use Rattle.snap_core.specs.declared.policy.Term.{Term}
use Rattle.snap_core.specs.declared.policy.Term.TheVariants.{Num, Plus}
use Rattle.snap_core.specs.declared.policy.Test.{Test}
use Rattle.snap_core.specs.Arrays.{has}
use Rattle.snap_context.specs.declared.fact.Fact.{Fact}
use Rattle.snap_context.specs.declared.tested.Tested.{Tested}
use Rattle.snap_context.specs.Classes.{class_of, index_of, var_of}
use Rattle.snap_context.specs.Known.{IsAmong}
use Rattle.snap_context.specs.Lean.{Among, IsLean, IsPlain}
use Rattle.snap_context.specs.View.{View, IsContext}
use Rattle.snap_diagrams.specs.Diagrams.{Diagram, Asks}
use Rattle.snap_diagrams.specs.Order.{test_cmp}
use Rattle.snap_diagrams.specs.Quiet.{SameSubject}
use Rattle.snap_diagrams.specs.Tested.{TestsOver}

-- a fact on a test before t, and on another subject
abbrev pub IsPast : List ℕ → Test → Fact → Type 0
IsPast ranks t f = (test_cmp ranks f.test t ≡ Less) × (¬ (SameSubject f.test t))

-- the class is a number, and no atom of the index is that one
abbrev pub IsMissed : List Atom → Term → Type 0
IsMissed ix (Num n) = All (λ a. a ≢ Number n) ix
IsMissed ix (Plus c p) = ⊥

-- so is the class of each component of the set
abbrev pub AreMissed : List Term → ℕ → List Atom → Type 0
AreMissed cl set ix = (c : ℕ) → c < length cl → has set c ≡ true → IsMissed ix (class_of cl c)

-- a fact at a place of numbers, at which no test is from t on that is about the components and arrays of a mark
abbrev pub Simulates : List ℕ → List Term → Tested → Test → Fact → Type 0
Simulates ranks cl e t f = IsPlain f.test
    × ((¬ (IsAmong e.arrays (var_of f.test))) ⊎ (IsPast ranks t f × AreMissed cl e.comps (index_of f.test)))

-- w is the context v without facts that are done
pub record IsLeaner (ranks : List ℕ) (v w : View) (e : Tested) (t : Test) : Type 0 where
  pub gone : List Fact
  pub done : All (Simulates ranks v.classes e t) gone
  pub context : IsContext v
  pub classes : w.classes ≡ v.classes
  pub lean : IsLean v.facts w.facts gone

-- w is the context v without facts that no test of the diagram bears on
pub record IsForgotten (ranks : List ℕ) (v w : View) (d : Diagram) : Type 0 where
  pub test : Test
  pub yes : Diagram
  pub other : Diagram
  pub tested : Tested
  pub is : d ≡ Asks test yes other
  pub over : TestsOver tested d
  pub leaner : IsLeaner ranks v w tested test

-- facts dealt out so far: the rest is left
pub record AreDealt (left facts stay gone : List Fact) : Type 0 where
  pub each : (f : Fact) → Among f facts → Among f left ⊎ (Among f stay ⊎ Among f gone)
  pub no_other : (f : Fact) → Among f left ⊎ (Among f stay ⊎ Among f gone) → Among f facts
  pub few : length stay + length left ≤ length facts
