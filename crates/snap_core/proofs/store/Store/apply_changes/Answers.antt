use Rattle.std.proofs.Common.{◌≡◌, ◌≤◌, ◌∷◌, ap, sym, subst, ◌∙◌, length}
use Rattle.std.specs.Prelude.{nat_eq}
use Rattle.std.specs.List.{IsDistinct}
use Rattle.std.specs.Map.{keys_of}
use Rattle.snap_core.specs.Cells.{arrays_of, overlaid, changed_at, room_at}
use Rattle.snap_core.proofs.CellMerge.{IsDistinct-arrays, overlaid-step, room-step}
use Rattle.snap_core.proofs.store.Store.apply_changes.Goals as goal

pub loop-var-init : goal.loop-var-init
loop-var-init c =
    let same = c.into_iter-var-iterator.ensures.into_iter_gives.0 in
    let all = same ∙ c.into_patches-var-items.ensures in
    record {
      distinct = subst (λ l. IsDistinct nat_eq (keys_of l)) (sym same) (IsDistinct-arrays c.into_patches-var-items.result.entries c.into_iter-var-iterator.ensures.into_iter_gives.5);
      room = λ s. subst (λ l. length (changed_at l s) ≤ room_at c.make_room.new.self s) (sym all) (c.in_ok-make_room.ensures.room s);
      arrays = λ p. (λ i. overlaid (c.make_room.ensures.same i) (all i) p);
    }

pub loop-var-preserved : goal.loop-var-preserved
unfolding IsDistinct
loop-var-preserved c =
    let rest = c.next.new.self in let v = c.in-Some.var in let b = c.in-Some.patch in
    let old = c.loop-var.self in let new = c.take.new.self in
    let left : c.loop-var.var-iterator ≡ (v, b) ∷ rest = c.in-Some.ensures.steps in
    let distinct : IsDistinct nat_eq (v ∷ keys_of rest) = subst (λ l. IsDistinct nat_eq (keys_of l)) left c.loop-var.invariant.distinct in
    record {
      distinct = distinct.1;
      room = room-step v b rest (room_at old) (room_at new) distinct (λ s. subst (λ l. length (changed_at l s) ≤ room_at old s) left (c.loop-var.invariant.room s)) c.take.ensures.kept;
      arrays = λ p.
          overlaid-step v b rest (arrays_of old) (arrays_of new) distinct c.take.ensures.arrays p
          ∙ ap (λ l. overlaid (arrays_of old) l p) (sym left)
          ∙ c.loop-var.invariant.arrays p;
    }
