-- Additions first, then other places.
use Rattle.std.proofs.Common.{◌≡◌, ℕ, List, subst}
use Rattle.std.specs.Prelude.{Some, None}
use Rattle.snap_core.specs.declared.policy.Update.{Update}
use Rattle.snap_core.specs.Arrays.{updates}
use Rattle.snap_equal.specs.Held.{AgreeAlong}
use Rattle.snap_equal.specs.Told.{Decides}
use Rattle.snap_equal.proofs.Adding.{outside_wider}
use Rattle.snap_equal.proofs.AllPlaces.{agree_along}
use Rattle.snap_equal.proofs.Differing.{equal_stores, equal_sums}
use Rattle.snap_equal.proofs.Telling.{told_true, told_false, result_as}
use Rattle.snap_equal.proofs.stores.same_places.Goals as goal

pub returns-then-not-branch : goal.returns-then-not-branch
returns-then-not-branch c = λ m k i e.
    let sums : List Update = c.in_ok-sums.sums.items in
    let first : List Update = c.behind-first.result.now in
    let mixed : ℕ = c.with_puts-mixed.result in
    told_false c.args.ctx.now (λ m k. AgreeAlong None sums k (updates m sums k) m) c.in_ok-add_nothing.field-0 c.if-not-branch.true
    (subst (λ (us : List Update). Decides c.args.ctx.now (λ m k. AgreeAlong None us k (updates m us k) m) c.in_ok-add_nothing.field-0) c.deref.ensures.value c.in_ok-add_nothing.ensures) m k i
    (equal_sums c.args.ctx.now mixed c.args.arrays c.common-done.result c.args.left.now c.args.right.now first c.behind-second.result.now sums c.behind-first.ensures c.behind-second.ensures
    c.common-done.ensures.same c.common-done.ensures.small (outside_wider c.with_puts.result mixed first c.with_puts-mixed.ensures.more c.with_puts.ensures.puts) c.with_puts-mixed.ensures.puts
    c.in_ok-sums.ensures.sums c.in_ok-sums.ensures.difference m k i e)

pub returns-then-not-branch-2 : goal.returns-then-not-branch-2
returns-then-not-branch-2 c = λ m k i e.
    let first : List Update = c.behind-first.result.now in
    told_false c.args.ctx.now (λ m k. AgreeAlong (Some c.with_puts-mixed.result) first k (updates m c.args.left.now k) (updates m c.args.right.now k)) c.in_ok-same_along.field-0 c.if-not-branch-2.true c.in_ok-same_along.ensures m k i
    (agree_along (Some c.with_puts-mixed.result) first k (updates m c.args.left.now k) (updates m c.args.right.now k) e)

pub returns : goal.returns
returns c =
    let sums : List Update = c.in_ok-sums.sums.items in
    let first : List Update = c.behind-first.result.now in
    let second : List Update = c.behind-second.result.now in
    let mixed : ℕ = c.with_puts-mixed.result in
    result_as c.args.ctx.now c.args.arrays (λ m k. AgreeAlong (Some mixed) second k (updates m c.args.left.now k) (updates m c.args.right.now k)) (λ m k. updates m c.args.left.now k ≡ updates m c.args.right.now k)
    (λ m k i back. equal_stores c.args.ctx.now mixed c.args.arrays c.common-done.result c.args.left.now c.args.right.now first second sums c.behind-first.ensures c.behind-second.ensures
    c.common-done.ensures.same c.common-done.ensures.small (outside_wider c.with_puts.result mixed first c.with_puts-mixed.ensures.more c.with_puts.ensures.puts) c.with_puts-mixed.ensures.puts
    c.in_ok-sums.ensures.sums c.in_ok-sums.ensures.difference m k i
    (told_true c.args.ctx.now (λ m k. AgreeAlong None sums k (updates m sums k) m) c.in_ok-add_nothing.field-0 c.if-not-branch.false
    (subst (λ (us : List Update). Decides c.args.ctx.now (λ m k. AgreeAlong None us k (updates m us k) m) c.in_ok-add_nothing.field-0) c.deref.ensures.value c.in_ok-add_nothing.ensures) m k i)
    (told_true c.args.ctx.now (λ m k. AgreeAlong (Some mixed) first k (updates m c.args.left.now k) (updates m c.args.right.now k)) c.in_ok-same_along.field-0 c.if-not-branch-2.false c.in_ok-same_along.ensures m k i)
    back)
    (λ m k i e. agree_along (Some mixed) second k (updates m c.args.left.now k) (updates m c.args.right.now k) e)
    c.same_along-2.result c.same_along-2.ensures
