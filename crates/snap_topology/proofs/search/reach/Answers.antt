use Rattle.std.proofs.Common.{◌∙◌, ℕ, ap, not, Vec, Global, arith}
use Rattle.snap_topology.proofs.Reaching.{reach-fresh, reach-known}
use Rattle.snap_topology.proofs.search.reach.Goals as goal
use Rattle.snap_topology.proofs.search.reach.Goals.{then-is_none+in_ok-push, else-is_none}

pub loop-switch-preserved : goal.loop-switch-preserved
loop-switch-preserved c =
    elim c.if-is_none.branch [
      | then-is_none+in_ok-push w ↦ reach-fresh c.args.switches.now c.loop-switch.switch-index c.args.distance c.args.distances.now c.loop-switch.distances c.if-is_none.distances c.args.level.now.items c.loop-switch.level.items c.if-is_none.level.items
          c.loop-switch-test.true (omega (arith, c.requires c.loop-switch.switch-index 0 c.loop-switch-test.true, c.loop-switch.auto.distances)) (ap not (c.is_none.ensures ∙ ap not w.if-is_none.true))
          w.distances-is (ap (λ (v : Vec ℕ Global). v.items) w.level-is ∙ w.in_ok-push.ensures.items) c.loop-switch.invariant
      | else-is_none w ↦ reach-known c.args.switches.now c.loop-switch.switch-index c.args.distance c.args.distances.now c.loop-switch.distances c.if-is_none.distances c.args.level.now.items c.loop-switch.level.items c.if-is_none.level.items
          c.loop-switch-test.true (ap not (c.is_none.ensures ∙ ap not w.if-is_none.false))
          w.distances-is (ap (λ (v : Vec ℕ Global). v.items) w.level-is) c.loop-switch.invariant
    ]
