-- One update is let go.
use Rattle.std.proofs.Common.{◌≡◌, ◌<◌, ◌+◌, ◌-◌, ℕ, List, length, drop, sym, ap, ◌∙◌, subst, arith}
use Rattle.std.specs.Prelude.{All}
use Rattle.std.specs.List.{remove}
use Rattle.snap_core.specs.declared.policy.Update.{Update}
use Rattle.snap_core.specs.Arrays.{update, updates}
use Rattle.snap_equal.specs.Inputs.{AreOf, IsUpdate}
use Rattle.snap_equal.proofs.Turning.{All-remove, matched}
use Rattle.snap_equal.proofs.orders.unmatched.Goals as goal

pub loop-count-preserved : goal.loop-count-preserved
loop-count-preserved c =
    let left : List Update = c.args.left.now in
    let us : List Update = c.loop-count.rest.items in
    let at : ℕ = c.in-Some.i in
    let j : ℕ = c.loop-count.count - 1 in
    let l : j < length left = (let few = c.loop-count.invariant.few in let some = c.loop-count-test.true in omega (arith, few, some)) in
    let next : c.loop-count.count ≡ j + 1 = (let some = c.loop-count-test.true in omega (arith, some)) in
    let gone : c.remove.new.self.items ≡ remove us at = c.remove.ensures.items in
    let P : Update → Type 0 = IsUpdate (length c.args.ctx.now.classes) in
    record {
      few = (let few = c.loop-count.invariant.few in omega (arith, few));
      fits = subst (All P) (sym gone) (All-remove P us at c.loop-count.invariant.fits);
      arrays = λ v h. subst (AreOf v) (sym gone) (All-remove (λ (u : Update). u.var < v) us at (c.loop-count.invariant.arrays v h));
      rest = λ m k i.
          c.loop-count.invariant.rest m k i
          ∙ ap (λ n. updates (updates m us k) (drop n left) k) next
          ∙ matched k m left us (remove us at) j c.index-left-last.result l c.index-left-last.is
          (λ n. subst (λ (vs : List Update). updates n vs k ≡ update (updates n (remove vs at) k) c.index-left-last.result k) c.deref.ensures.value (c.in-Some.ensures.last m k i n))
          ∙ ap (λ vs. updates (updates m vs k) (drop j left) k) (sym gone);
    }
