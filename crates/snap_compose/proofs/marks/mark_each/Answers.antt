-- One mark more.
use Rattle.std.proofs.Common.{rules, ◌≡◌, ℕ, List, length, sym, subst, slice_index_or}
use Rattle.std.proofs.lemmas.Option.{slice_get-get_or}
use Rattle.std.specs.Prelude.{Some, slice_get}
use Rattle.snap_diagrams.specs.Reached.{AreNoted}
use Rattle.snap_diagrams.proofs.Noted.{noted_more}
use Rattle.snap_compose.specs.Marks.{IsMarkedBy}
use Rattle.snap_compose.proofs.marks.mark_each.Goals as goal

pub loop-id-preserved : goal.loop-id-preserved
loop-id-preserved c =
    let ids = c.args.reached.now.ids.items in
    let notes = c.loop-id.noted.items in
    let d : ℕ = slice_index_or c.deref-id-items.result.now c.loop-id.id-index 0 in
    let at = subst (λ (is : List ℕ). slice_get is (length notes) ≡ Some d) c.deref-id-items.ensures.value (rw c.loop-id.invariant.count (slice_get-get_or c.deref-id-items.result.now c.loop-id.id-index 0 c.loop-id-test.true)) in
    record {
      count = search rules;
      noted = subst (AreNoted IsMarkedBy c.args.nodes.now ids) (sym c.in_ok-push.ensures.items)
          (noted_more IsMarkedBy c.args.nodes.now ids notes d c.next_mark-next.result at (search rules) c.next_mark-next.ensures c.loop-id.invariant.noted);
    }
