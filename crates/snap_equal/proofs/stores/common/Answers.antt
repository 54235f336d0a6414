-- One update more does the same, and keeps numbers of 64 bits.
use Rattle.std.proofs.Common.{ℕ, length, take, sym, ap, ◌∙◌, subst, arith}
use Rattle.snap_core.specs.declared.policy.Update.{Update}
use Rattle.snap_core.specs.Arrays.{Arrays, update, updates}
use Rattle.snap_core.specs.Inputs.{IsStore}
use Rattle.snap_equal.proofs.Holding.{updates_more}
use Rattle.snap_equal.proofs.Wrapping.{update_small}
use Rattle.snap_equal.proofs.stores.common.Goals as goal

pub loop-count-preserved : goal.loop-count-preserved
loop-count-preserved c =
    let n : ℕ = c.loop-count.count in
    let u : Update = c.index-left-count.result in
    let left = c.args.left.now in let right = c.args.right.now in
    record {
      left = omega arith;
      right = omega arith;
      same = λ m k i.
          updates_more left n u m k c.loop-count-test.true c.index-left-count.is
          ∙ c.reads_update.ensures c.if-not-reads_update.false m k i (updates m (take n left) k)
          ∙ ap (λ (x : Arrays). update x c.index-right-count.result k) (c.loop-count.invariant.same m k i)
          ∙ sym (updates_more right n c.index-right-count.result m k c.if-count-right.true c.index-right-count.is);
      small = λ m k i. subst IsStore (sym (updates_more left n u m k c.loop-count-test.true c.index-left-count.is))
          (update_small c.stays_small.ensures (length c.args.ctx.now.classes) u (updates m (take n left) k) k c.op_is_small.ensures (c.loop-count.invariant.small m k i) i.packet);
    }
