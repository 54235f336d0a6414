-- Out by out.
use Rattle.std.proofs.Common.{◌≡◌, [], get_or, sym, ap, ◌∙◌, arith, below_more}
use Rattle.std.proofs.lemmas.List.{get_or_default}
use Rattle.snap_core.specs.Tests.{after_out}
use Rattle.snap_equal.specs.Told.{On}
use Rattle.snap_equal.proofs.Telling.{told_true, told_false}
use Rattle.snap_equal.proofs.outs.has_out.Goals as goal
use Rattle.snap_equal.proofs.outs.has_out.Goals.{After-other-item}

item : (c : After-other-item) → c.other-item.result ≡ get_or c.args.outs.now c.loop-other.other-index []
item c = c.other-item.is ∙ get_or_default c.args.outs.now c.loop-other.other-index c.other-item.result [] c.loop-other-test.true

pub returns-then-branch-2 : goal.returns-then-branch-2
returns-then-branch-2 c = λ m k i. record {
  at = c.loop-other.other-index;
  within = c.loop-other-test.true;
  is = ap (λ o. after_out o k) (sym (item (goal.at.returns-then-branch-2 c).After-other-item))
      ∙ told_true c.args.ctx.now (λ m k. after_out c.other-item.result k ≡ after_out c.args.out.now k) c.in_ok-same_out.field-0 c.if-branch-2.true c.in_ok-same_out.ensures m k i;
}

pub loop-other-preserved : goal.loop-other-preserved
loop-other-preserved c =
    below_more (λ j. On c.args.ctx.now (λ m k. after_out (get_or c.args.outs.now j []) k ≡ after_out c.args.out.now k → ⊥)) c.loop-other.other-index c.loop-other.invariant
    (λ m k i e. told_false c.args.ctx.now (λ m k. after_out c.other-item.result k ≡ after_out c.args.out.now k) c.in_ok-same_out.field-0 c.if-branch-2.false c.in_ok-same_out.ensures m k i
    (ap (λ o. after_out o k) (item (goal.at.loop-other-preserved c).After-other-item) ∙ e))

pub returns : goal.returns
returns c = λ m k i h. c.loop-other.invariant h.at (let w = h.within in omega (arith, w, c.loop-other-test.false)) m k i h.is
