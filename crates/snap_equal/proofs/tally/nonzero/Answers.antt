-- One sum more, which is kept unless it is 0.
use Rattle.std.proofs.Common.{◌++◌, ◌∷◌, [], List, take, sym, ap, ◌∙◌, subst}
use Rattle.std.specs.Prelude.{All}
use Rattle.std.proofs.lemmas.List.{take_all, take_more}
use Rattle.std.proofs.lemmas.List.Elements.{All-push}
use Rattle.snap_core.specs.declared.policy.Update.{Update}
use Rattle.snap_context.specs.Classes.{wrap}
use Rattle.snap_equal.specs.Tally.{IsSum, total}
use Rattle.snap_equal.proofs.Adding.{total-append, total-nothing}
use Rattle.snap_equal.proofs.tally.nonzero.Goals as goal
use Rattle.snap_equal.proofs.tally.nonzero.Goals.{then-not-is_nothing+in_ok-copy+in_ok-push, else-not-is_nothing}

pub loop-sum-preserved : goal.loop-sum-preserved
loop-sum-preserved c =
    let u : Update = c.sum-item.result in
    let done : List Update = take c.loop-sum.sum-index c.args.sums.now in
    let more = take_more c.args.sums.now c.loop-sum.sum-index u c.loop-sum-test.true ∙ ap (λ (x : Update). done ++ x ∷ []) (sym c.sum-item.is) in
    elim c.if-not-is_nothing.branch [
      | then-not-is_nothing+in_ok-copy+in_ok-push w ↦
          let items = w.in_ok-push.ensures.items ∙ ap (λ (x : Update). c.loop-sum.kept.items ++ x ∷ []) w.in_ok-copy.ensures in
          rw w.kept-is (record {
            kept = subst (All (IsSum c.args.mixed c.args.comps c.args.arrays)) (sym items)
                (All-push (IsSum c.args.mixed c.args.comps c.args.arrays) c.loop-sum.kept.items u c.loop-sum.invariant.kept (subst (IsSum c.args.mixed c.args.comps c.args.arrays) (sym c.sum-item.is) (c.requires c.loop-sum.sum-index u c.loop-sum-test.true)));
            total = λ k q.
                ap (λ us. total us k q) items
                ∙ total-append c.loop-sum.kept.items (u ∷ []) k q
                ∙ ap (λ x. wrap x (total (u ∷ []) k q)) (c.loop-sum.invariant.total k q)
                ∙ sym (total-append done (u ∷ []) k q)
                ∙ sym (ap (λ us. total us k q) more);
          })
      | else-not-is_nothing w ↦ rw w.kept-is (record {
        kept = c.loop-sum.invariant.kept;
        total = λ k q. c.loop-sum.invariant.total k q ∙ sym (ap (λ us. total us k q) more ∙ total-nothing done u k q (c.is_nothing.ensures w.if-not-is_nothing.false));
      })
    ]

pub returns-clause-total : goal.returns-clause-total
returns-clause-total c = λ k q. c.loop-sum.invariant.total k q ∙ ap (λ us. total us k q) (take_all c.loop-sum.sum-index c.args.sums.now c.loop-sum-test.false)
