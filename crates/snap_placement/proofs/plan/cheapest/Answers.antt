use Rattle.std.proofs.Common.{◌∙◌, sym}
use Rattle.std.proofs.lemmas.List.Elements.{Contains-get_or}
use Rattle.snap_placement.specs.Steps.{over}
use Rattle.snap_placement.proofs.Cheap.{IsBestSo-cheaper, IsBestSo-dearer}
use Rattle.snap_placement.proofs.plan.cheapest.Goals as goal
use Rattle.snap_placement.proofs.plan.cheapest.Goals.{then-is_cheaper, else-is_cheaper}

pub is_cheaper-requires-clause-near_a : goal.is_cheaper-requires-clause-near_a
is_cheaper-requires-clause-near_a c = c.requires.near _ (Contains-get_or c.args.switches.now c.loop-switch.switch-index 0 c.loop-switch-test.true)

pub is_cheaper-requires-clause-onward_a : goal.is_cheaper-requires-clause-onward_a
is_cheaper-requires-clause-onward_a c = c.requires.onward _ (Contains-get_or c.args.switches.now c.loop-switch.switch-index 0 c.loop-switch-test.true)

pub is_cheaper-requires-clause-near_b : goal.is_cheaper-requires-clause-near_b
is_cheaper-requires-clause-near_b c = c.requires.near _ c.loop-switch.invariant.member

pub is_cheaper-requires-clause-onward_b : goal.is_cheaper-requires-clause-onward_b
is_cheaper-requires-clause-onward_b c = c.requires.onward _ c.loop-switch.invariant.member

pub loop-switch-preserved : goal.loop-switch-preserved
loop-switch-preserved c =
    elim c.if-is_cheaper.branch [
      | then-is_cheaper w ↦ IsBestSo-cheaper (over c.args.near.now c.args.onward.now) c.args.switches.now c.loop-switch.switch-index c.loop-switch.best c.if-is_cheaper.best c.loop-switch-test.true (sym c.is_cheaper.ensures ∙ w.if-is_cheaper.true) w.best-is c.loop-switch.invariant
      | else-is_cheaper w ↦ IsBestSo-dearer (over c.args.near.now c.args.onward.now) c.args.switches.now c.loop-switch.switch-index c.loop-switch.best c.if-is_cheaper.best c.loop-switch-test.true (sym c.is_cheaper.ensures ∙ w.if-is_cheaper.false) w.best-is c.loop-switch.invariant
    ]
