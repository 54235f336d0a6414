use Rattle.std.proofs.Common.{length, ◌<◌}
use Rattle.std.proofs.lemmas.List.Elements.{All-push, All-nil}
use Rattle.snap_dep.proofs.OrderLemmas.{none_taken, take_next, all_taken}
use Rattle.snap_dep.proofs.order.by_rank.Goals as goal

pub loop-next-init : goal.loop-next-init
loop-next-init c = rw c.new-order.ensures.items (All-nil (λ g. g < length c.args.rows.now), λ p below same. none_taken p _ _ (c.all_groups-left.ensures p same))

pub loop-next-preserved : goal.loop-next-preserved
loop-next-preserved c =
    rw c.in_ok-push.ensures.items (
      All-push (λ g. g < length c.args.rows.now) _ _ c.loop-next.invariant.0 c.in-Some.ensures.0,
      λ p below same. take_next p _ _ _ _ below same (c.loop-next.invariant.1 p below same) c.in-Some.next _ c.in-Some.ensures.1 c.in-Some.ensures.2 c.without-left.ensures.set,
    )

pub returns-clause-rank : goal.returns-clause-rank
returns-clause-rank c = λ p below same. all_taken p _ _ _ _ below same (c.loop-next.invariant.1 p below same) c.in_default.ensures
