-- A context as its callers see it.
use Rattle.std.specs.Prelude.{◌≡◌, ℕ, ◌^◌, ◌<◌, ◌≤◌, List, length}
use Rattle.snap_core.specs.declared.policy.Term.{Term}
use Rattle.snap_core.specs.declared.policy.Term.TheVariants.{Plus}
use Rattle.snap_context.specs.declared.fact.Fact.{Fact}
use Rattle.snap_context.specs.Meets.{Under}
use Rattle.snap_context.specs.Classes.{class_of, Fits, Rules}

-- the facts, and the class of each component
pub record View : Type 0 where
  pub facts : List Fact
  pub classes : List Term

-- the rules are kept, there are not too many, and the classes tell what the facts do
pub record IsContext (v : View) : Type 0 where
  pub rules : Rules v.facts v.classes
  pub few : length v.classes ≤ 64
  pub many : length v.facts < 2 ^ 32
  pub told : Under (length v.classes) v.facts (λ m k. Fits v.classes k)

-- each component is a root
abbrev pub AreFirst : ℕ → List Term → Type 0
AreFirst comps cl = (length cl ≡ comps) × ((c : ℕ) → c < comps → class_of cl c ≡ Plus c 0)
