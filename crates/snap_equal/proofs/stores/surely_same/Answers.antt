-- What is left does the same.
use Rattle.std.proofs.Common.{◌≡◌, List, subst}
use Rattle.snap_core.specs.declared.policy.Update.{Update}
use Rattle.snap_core.specs.Arrays.{updates}
use Rattle.snap_equal.specs.Told.{Decides}
use Rattle.snap_equal.proofs.Telling.{told_true}
use Rattle.snap_equal.proofs.Turning.{same_behind}
use Rattle.snap_equal.proofs.stores.surely_same.Goals as goal

pub returns-in-Ok : goal.returns-in-Ok
returns-in-Ok c = λ e m k i.
    let first : List Update = c.before-2.result.now in
    let rest : List Update = c.in_ok-count.rest.items in
    same_behind k m c.args.left.now rest c.args.right.now first c.in_ok-count.count c.before-2.ensures
    (told_true c.args.ctx.now (λ m k. updates m first k ≡ updates m rest k) c.in-Ok.yes e
    (subst (λ (vs : List Update). Decides c.args.ctx.now (λ m k. updates m first k ≡ updates m vs k) c.in-Ok.yes) c.deref.ensures.value c.in-Ok.ensures) m k i)
    (c.in_ok-count.ensures.rest m k i)
