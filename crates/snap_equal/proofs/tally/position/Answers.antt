-- The place of the sum.
use Rattle.std.proofs.Common.{◌≡◌, ◌∙◌, subst}
use Rattle.std.proofs.lemmas.List.{get_or_default}
use Rattle.snap_core.specs.declared.policy.Update.{Update}
use Rattle.snap_core.specs.Arrays.{place_at}
use Rattle.snap_equal.proofs.tally.position.Goals as goal

pub returns-then-reads_place-clause-place : goal.returns-then-reads_place-clause-place
returns-then-reads_place-clause-place c = λ d m k i.
    subst (λ (u : Update). place_at u.var u.index k ≡ place_at c.args.update.now.var c.args.update.now.index k)
    (c.index-sums-i.is ∙ get_or_default c.args.sums.now c.loop-i.i c.index-sums-i.result d c.loop-i-test.true)
    (c.reads_place.ensures c.if-reads_place.true m k i)
