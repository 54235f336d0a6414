-- One update more.
use Rattle.std.proofs.Common.{◌++◌, ◌∷◌, [], List, take, sym, ap, ◌∙◌, subst}
use Rattle.std.proofs.lemmas.List.{append_assoc, take_more}
use Rattle.snap_core.specs.declared.policy.Update.{Update}
use Rattle.snap_compose.specs.Additions.{AreSame}
use Rattle.snap_compose.proofs.Sums.{same_more}
use Rattle.snap_compose.proofs.summing.push_updates.Goals as goal

pub loop-update-preserved : goal.loop-update-preserved
loop-update-preserved c =
    let u : Update = c.update-item.result in
    let done : List Update = c.args.updates.now.items ++ take c.loop-update.update-index c.args.more.now in
    subst (λ (xs : List Update). AreSame c.push_update.new.updates.items xs)
    (append_assoc c.args.updates.now.items (take c.loop-update.update-index c.args.more.now) (u ∷ [])
    ∙ ap (λ (xs : List Update). c.args.updates.now.items ++ xs) (ap (λ (x : Update). take c.loop-update.update-index c.args.more.now ++ x ∷ []) c.update-item.is ∙ sym (take_more c.args.more.now c.loop-update.update-index u c.loop-update-test.true)))
    (same_more c.push_update.new.updates.items c.loop-update.updates.items done u c.in_ok-push_update.ensures c.loop-update.invariant)
