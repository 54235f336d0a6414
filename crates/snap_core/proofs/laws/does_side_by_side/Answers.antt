use Rattle.std.proofs.Common.{◌≡◌, ℕ, Bool, true, false, cond, List, refl, sym, ◌∙◌}
use Rattle.std.proofs.lemmas.Bool.{cond-true, cond-false, both_ways, false_from_ne_true}
use Rattle.snap_core.specs.declared.place.Place.{Place}
use Rattle.snap_core.specs.declared.policy.Update.{Update}
use Rattle.snap_core.specs.Arrays.{Arrays, updates, has}
use Rattle.snap_core.specs.Laws.{written_by}
use Rattle.snap_core.proofs.Updates.{updates-keep, updates-after}
use Rattle.snap_core.proofs.laws.does_side_by_side.Goals as goal

side_by_side : (k : List ℕ) (us vs : List Update) (m : Arrays) (p : Place) (t : Bool) → has (written_by vs) p.var ≡ t → ((v : ℕ) → has (written_by us) v ≡ true → has (written_by vs) v ≡ false)
    → updates (updates m us k) vs k p ≡ cond (has (written_by vs) p.var) (updates m vs k p) (updates m us k p)
side_by_side k us vs m p true e apart =
    let other : has (written_by us) p.var ≡ false = false_from_ne_true _ (λ x. both_ways _ (apart p.var x) e) in
    updates-after k us vs m p other ∙ sym (cond-true _ _ _ e)
side_by_side k us vs m p false e apart = updates-keep k vs (updates m us k) p e ∙ sym (cond-false _ _ _ e)

pub returns : goal.returns
returns c = λ us vs m k apart. λ i p. side_by_side k us vs m p _ refl apart i
