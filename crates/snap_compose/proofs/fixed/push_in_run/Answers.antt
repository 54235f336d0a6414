-- The run grows, or it ends.
use Rattle.std.proofs.Common.{List, [], ◌∷◌, ◌++◌, sym, ap, ◌∙◌, subst}
use Rattle.snap_core.specs.declared.policy.Update.{Update}
use Rattle.snap_compose.specs.Fixed.{EndInRun}
use Rattle.snap_compose.proofs.AtNumbers.{run_ended, run_longer}
use Rattle.snap_compose.proofs.fixed.push_in_run.Goals as goal

pub returns-then-is_fixed : goal.returns-then-is_fixed
returns-then-is_fixed c = λ us e.
    let some : List Update = c.args.ordered.now.items in
    let run : List Update = c.args.run.now.items in
    let u : Update = c.args.update.now in
    subst (EndInRun (us ++ u ∷ []) some) (sym (c.in_ok-push.ensures.items ∙ ap (λ (x : Update). run ++ x ∷ []) c.in_ok-next.ensures))
    (run_longer us some run u (rw (sym c.items.ensures) (c.is_fixed.ensures c.if-is_fixed.true)) e)

pub returns : goal.returns
returns c = λ us e.
    let some : List Update = c.args.ordered.now.items in
    let run : List Update = c.args.run.now.items in
    let u : Update = c.args.update.now in
    let new : List Update = c.push_run.new.ordered.items in
    rw (c.in_ok-push_run.ensures.empty, c.in_ok-push-2.ensures.items, c.in_ok-next.ensures) (run_ended us some run new u c.in_ok-push_run.ensures.reordered e)
