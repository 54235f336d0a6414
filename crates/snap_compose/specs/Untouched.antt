-- Diagrams that test nothing that updates change.
use Rattle.std.specs.Prelude.{◌≡◌, ℕ, Bool, false, ◌==◌, ◌||◌, List, [], ◌∷◌}
use Rattle.snap_core.specs.declared.policy.Test.{Test}
use Rattle.snap_core.specs.declared.policy.Test.TheVariants.{Value, Equal, State}
use Rattle.snap_core.specs.declared.policy.Update.{Update}
use Rattle.snap_diagrams.specs.Diagrams.{Diagram, Only, Asks}

-- one of the updates changes the variable
abbrev pub changes : List Update → ℕ → Bool
changes [] v = false
changes (u ∷ us) v = (u.var == v) || changes us v

abbrev pub tests_updated : Test → List Update → Bool
tests_updated (Value c n) ups = false
tests_updated (Equal l r p) ups = false
tests_updated (State v ix t) ups = changes ups v

abbrev pub IsUntouched : List Update → Diagram → Type 0
IsUntouched ups (Only l) = Unit {0}
IsUntouched ups (Asks t y n) = (tests_updated t ups ≡ false) × IsUntouched ups y × IsUntouched ups n
