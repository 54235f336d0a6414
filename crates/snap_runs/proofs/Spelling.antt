-- Events of a schedule, one behind another.
use Rattle.std.proofs.Common.{◌≡◌, ℕ, List, [], ◌∷◌, ◌++◌, Some, sym, subst}
use Rattle.std.specs.Prelude.{slice_index}
use Rattle.snap_rows.specs.Network.{Event, Inject, Step}
use Rattle.snap_runs.specs.declared.event.Instruction.TheVariants as order
use Rattle.snap_runs.specs.Schedules.{Spells, nothing, skips, injects, steps, order_by}

pub spells-skip : {lines ks left : List (List ℕ)} {es : List Event} (line : List ℕ) → order_by line ≡ Some order.Skip → Spells lines ks es left → Spells (lines ++ line ∷ []) ks es left
spells-skip line e nothing = skips e nothing
spells-skip line e (skips f rest) = skips f (spells-skip line e rest)
spells-skip line e (injects f rest) = injects f (spells-skip line e rest)
spells-skip line e (steps f rest) = steps f (spells-skip line e rest)

pub spells-inject : {lines ks whole : List (List ℕ)} {es : List Event} (line k : List ℕ) (left : List (List ℕ)) → order_by line ≡ Some order.Inject → whole ≡ k ∷ left → Spells lines ks es whole
    → Spells (lines ++ line ∷ []) ks (es ++ Inject (slice_index k 0) k ∷ []) left
spells-inject line k left e is nothing = subst (λ ks. Spells (line ∷ []) ks (Inject (slice_index k 0) k ∷ []) left) (sym is) (injects e nothing)
spells-inject line k left e is (skips f rest) = skips f (spells-inject line k left e is rest)
spells-inject line k left e is (injects f rest) = injects f (spells-inject line k left e is rest)
spells-inject line k left e is (steps f rest) = steps f (spells-inject line k left e is rest)

pub spells-step : {lines ks left : List (List ℕ)} {es : List Event} (line : List ℕ) (i : ℕ) → order_by line ≡ Some (order.Step i) → Spells lines ks es left → Spells (lines ++ line ∷ []) ks (es ++ Step i ∷ []) left
spells-step line i e nothing = steps e nothing
spells-step line i e (skips f rest) = skips f (spells-step line i e rest)
spells-step line i e (injects f rest) = injects f (spells-step line i e rest)
spells-step line i e (steps f rest) = steps f (spells-step line i e rest)
