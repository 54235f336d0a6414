-- One update more.
use Rattle.std.proofs.Common.{◌≡◌, true, take, sym, ap, ◌∙◌}
use Rattle.std.proofs.lemmas.Bool.{true≢false}
use Rattle.std.proofs.lemmas.List.{take_all}
use Rattle.snap_core.specs.declared.policy.Op.{Op}
use Rattle.snap_core.specs.declared.policy.Update.{Update}
use Rattle.snap_core.specs.Arrays.{has}
use Rattle.snap_context.specs.Classes.{wrap}
use Rattle.snap_context.proofs.Wrap.{wrap_assoc, wrap_zero}
use Rattle.snap_equal.specs.Tally.{share_of, signed, signed_total, total}
use Rattle.snap_equal.proofs.Adding.{signed-none, signed_total-more, signed_total-same, share_none, share_other, total_small}
use Rattle.snap_equal.proofs.tally.count.Goals as goal
use Rattle.snap_equal.proofs.tally.count.Goals.{in-Add+in_ok-add-in-Add, in-Put}
use Rattle.snap_compose.specs.Additions.{added}

pub loop-update-init : goal.loop-update-init
loop-update-init c = record {
  sums = c.requires.sums;
  total = λ m k i q out. sym (wrap_zero (total c.args.sums.now.items k q) (total_small c.args.sums.now.items k q));
}

pub loop-update-preserved-then-is_in : goal.loop-update-preserved-then-is_in
loop-update-preserved-then-is_in c =
    let u : Update = c.update-item.result in
    let within : has c.args.mixed u.var ≡ true = sym c.is_in.ensures ∙ c.if-is_in.true in
    record {
      sums = c.loop-update.invariant.sums;
      total = λ m k i q out.
          c.loop-update.invariant.total m k i q out
          ∙ ap (wrap (total c.args.sums.now.items k q)) (sym (signed_total-same c.args.sign c.args.updates.now c.loop-update.update-index u k q c.loop-update-test.true c.update-item.is
          (share_other u (signed c.args.sign (added u.op)) k q (λ e. true≢false (sym within ∙ ap (has c.args.mixed) e ∙ out)))));
    }

pub loop-update-preserved : goal.loop-update-preserved
loop-update-preserved c =
    let u : Update = c.update-item.result in
    elim c.match-update.branch [
      | in-Add+in_ok-add-in-Add w ↦ rw w.sums-is (record {
        sums = w.in_ok-add-in-Add.ensures.sums;
        total = λ m k i q out.
            w.in_ok-add-in-Add.ensures.total m k i q
            ∙ ap (λ x. wrap x (share_of u w.signed.result k q)) (c.loop-update.invariant.total m k i q out)
            ∙ wrap_assoc (total c.args.sums.now.items k q) (signed_total c.args.sign (take c.loop-update.update-index c.args.updates.now) k q) (share_of u w.signed.result k q)
            ∙ ap (λ n. wrap (total c.args.sums.now.items k q) (wrap (signed_total c.args.sign (take c.loop-update.update-index c.args.updates.now) k q) (share_of u n k q)))
            (w.signed.ensures ∙ ap (λ (op : Op). signed c.args.sign (added op)) (sym w.in-Add.is))
            ∙ ap (wrap (total c.args.sums.now.items k q)) (sym (signed_total-more c.args.sign c.args.updates.now c.loop-update.update-index u k q c.loop-update-test.true c.update-item.is));
      })
      | in-Put w ↦ rw w.sums-is (record {
        sums = c.loop-update.invariant.sums;
        total = λ m k i q out.
            c.loop-update.invariant.total m k i q out
            ∙ ap (wrap (total c.args.sums.now.items k q)) (sym (signed_total-same c.args.sign c.args.updates.now c.loop-update.update-index u k q c.loop-update-test.true c.update-item.is
            (share_none u (signed c.args.sign (added u.op)) k q (ap (λ (op : Op). signed c.args.sign (added op)) w.in-Put.is ∙ signed-none c.args.sign))));
      })
    ]

pub returns-clause-total : goal.returns-clause-total
returns-clause-total c = λ m k i q out.
    c.loop-update.invariant.total m k i q out
    ∙ ap (λ us. wrap (total c.args.sums.now.items k q) (signed_total c.args.sign us k q)) (take_all c.loop-update.update-index c.args.updates.now c.loop-update-test.false)
