use Rattle.std.proofs.Common.{◌≡◌, ℕ, Bool, true, false, List, refl, sym, ◌∙◌}
use Rattle.std.proofs.lemmas.Bool.{both_ways, false_from_ne_true}
use Rattle.snap_core.specs.declared.place.Place.{Place}
use Rattle.snap_core.specs.declared.policy.Update.{Update}
use Rattle.snap_core.specs.Arrays.{Arrays, updates, has}
use Rattle.snap_core.specs.Laws.{written_by}
use Rattle.snap_core.proofs.Updates.{updates-keep, updates-after}
use Rattle.snap_core.proofs.laws.commutes.Goals as goal

swapped : (k : List ℕ) (us vs : List Update) (m : Arrays) (p : Place) (t : Bool) → has (written_by vs) p.var ≡ t → ((v : ℕ) → has (written_by us) v ≡ true → has (written_by vs) v ≡ false)
    → updates (updates m us k) vs k p ≡ updates (updates m vs k) us k p
swapped k us vs m p true e apart =
    let other : has (written_by us) p.var ≡ false = false_from_ne_true _ (λ x. both_ways _ (apart p.var x) e) in
    updates-after k us vs m p other ∙ sym (updates-keep k us (updates m vs k) p other)
swapped k us vs m p false e apart = updates-keep k vs (updates m us k) p e ∙ sym (updates-after k vs us m p e)

pub returns : goal.returns
returns c = λ us vs m k apart. λ i p. swapped k us vs m p _ refl apart i
