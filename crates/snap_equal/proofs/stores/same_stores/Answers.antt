-- What stands does what all does.
use Rattle.std.proofs.Common.{◌≡◌, List, sym, ap, ◌∙◌}
use Rattle.snap_core.specs.declared.policy.Update.{Update}
use Rattle.snap_core.specs.Arrays.{updates}
use Rattle.snap_equal.specs.Told.{On}
use Rattle.snap_equal.proofs.Telling.{result_as}
use Rattle.snap_equal.proofs.stores.same_stores.Goals as goal

pub returns : goal.returns
returns c =
    let first : List Update = c.deref.result.now in
    let second : List Update = c.deref-2.result.now in
    let left : On c.args.ctx.now (λ m k. updates m first k ≡ updates m c.args.left.now k) = λ m k i.
    ap (λ (us : List Update). updates m us k) c.deref.ensures.value ∙ c.in_ok-first.ensures.same m k i in
    let right : On c.args.ctx.now (λ m k. updates m second k ≡ updates m c.args.right.now k) = λ m k i.
    ap (λ (us : List Update). updates m us k) c.deref-2.ensures.value ∙ c.in_ok-second.ensures.same m k i in
    result_as c.args.ctx.now c.args.arrays (λ m k. updates m first k ≡ updates m second k) (λ m k. updates m c.args.left.now k ≡ updates m c.args.right.now k)
    (λ m k i e. sym (left m k i) ∙ e ∙ right m k i) (λ m k i e. left m k i ∙ e ∙ sym (right m k i)) c.same_standing.result c.same_standing.ensures
