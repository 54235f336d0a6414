use Rattle.std.proofs.Common.{[], ◌∷◌, ◌++◌, take, refl, sym, ap, ◌∙◌}
use Rattle.std.proofs.lemmas.List.{append_assoc}
use Rattle.snap_rows.specs.Dues.{seen}
use Rattle.snap_rows.proofs.Lent.{lent_more}
use Rattle.snap_rows.proofs.dues.copy_rest.Goals as goal

pub loop-update-preserved : goal.loop-update-preserved
loop-update-preserved c =
    let items = c.args.lent.now in
    let i = c.loop-update.update-index in
    let before = c.args.copies.now.items in
    let more = lent_more items (seen items) i c.update-item.result refl c.loop-update-test.true c.update-item.is in
    c.in_ok-push.ensures.items ∙ (λ j. c.loop-update.invariant j ++ c.in_ok-copy.ensures j ∷ [])
    ∙ append_assoc before (take i (seen items)) (c.update-item.result.now ∷ []) ∙ ap (λ l. before ++ l) (sym more)
