-- Indices that differ.
use Rattle.std.proofs.Common.{ℕ, map, sym, ap, ◌∙◌}
use Rattle.snap_core.specs.declared.place.Place.{Place}
use Rattle.snap_core.specs.declared.policy.Atom.{Atom}
use Rattle.snap_core.specs.Arrays.{value_of}
use Rattle.snap_equal.proofs.places.apart_places.Goals as goal

pub returns-else-left-right : goal.returns-else-left-right
returns-else-left-right c = λ e m k i same.
    let number : Atom → ℕ = λ a. value_of a k in
    c.apart_index.ensures e m k i (ap (map number) c.items.ensures ∙ ap (λ (p : Place). p.index) same ∙ sym (ap (map number) c.items-else-left-right.ensures))
