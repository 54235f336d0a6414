use Rattle.std.proofs.Common.{◌≡◌, refl, ap, sym, ◌∙◌, [], length, arith}
use Rattle.std.specs.Prelude.{nat_eq}
use Rattle.std.specs.List.{list_any}
use Rattle.snap_core.specs.Cells.{changed_at}
use Rattle.snap_core.proofs.StoreLemmas.{at-absent}
use Rattle.snap_core.proofs.store.Store.make_room.Goals as goal

pub loop-var-init : goal.loop-var-init
loop-var-init c = record {
  same = refl;
  room = λ s absent.
      let same = sym (c.into_iter-var-iterator.ensures.into_iter_gives ∙ c.keys-var-items.ensures.rest) in
      let none : length (changed_at c.args.changes.now s) ≡ 0 =
      ap (λ d. length (changed_at d s)) (sym c.patches-patches.ensures)
      ∙ ap length (at-absent [] c.patches-patches.result.now.entries s (ap (list_any (nat_eq s)) same ∙ absent)) in
      omega (arith, none);
}
