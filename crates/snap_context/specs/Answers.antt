-- The answers of a context.
use Rattle.std.specs.Prelude.{◌≡◌, Bool, true, false, length}
use Rattle.snap_core.specs.declared.policy.Test.{Test}
use Rattle.snap_core.specs.Tests.{passes}
use Rattle.snap_context.specs.declared.context.Assumed.{Assumed}
use Rattle.snap_context.specs.declared.context.Assumed.TheVariants.{Impossible, More}
use Rattle.snap_context.specs.declared.context.Verdict.{Verdict}
use Rattle.snap_context.specs.declared.context.Verdict.TheVariants.{Always, Never, Unsure}
use Rattle.snap_context.specs.Meets.{Under, with_fact, IsMet, NoneMeets}
use Rattle.snap_context.specs.View.{View}

-- no store and packet meet the facts and a new one, or some do
abbrev pub NoneMeetsWith : View → Test → Bool → Type 0
NoneMeetsWith v t y = NoneMeets (length v.classes) (with_fact v.facts t y)

abbrev pub IsMetWith : View → Test → Bool → Type 0
IsMetWith v t y = IsMet (length v.classes) (with_fact v.facts t y)

-- the same of a new fact, where there is then a context of them all
abbrev pub IsAssumed : View → Test → Bool → Assumed → Type 0
IsAssumed v t y Impossible = NoneMeetsWith v t y
IsAssumed v t y (More w) = (w.facts ≡ with_fact v.facts t y) × (length w.classes ≡ length v.classes) × IsMetWith v t y

-- all that meet the facts pass the test, or none of them does, or some do and some do not. Some meet the facts
abbrev pub IsVerdict : View → Test → Verdict → Type 0
IsVerdict v t Always = Under (length v.classes) v.facts (λ m k. passes t m k ≡ true) × IsMet (length v.classes) v.facts
IsVerdict v t Never = Under (length v.classes) v.facts (λ m k. passes t m k ≡ false) × IsMet (length v.classes) v.facts
IsVerdict v t Unsure = IsMetWith v t true × IsMetWith v t false
