use Rattle.std.proofs.Common.{◌∙◌, ℕ, ap, get_or, sym}
use Rattle.snap_placement.specs.Steps.{cost_over, is_before}
use Rattle.snap_placement.proofs.Cheap.{IsBestSo-cheaper, IsBestSo-dearer}
use Rattle.snap_placement.proofs.plan.next_from.Goals as goal
use Rattle.snap_placement.proofs.plan.next_from.Goals.{then-is_before, else-is_before}

pub loop-switch-preserved : goal.loop-switch-preserved
loop-switch-preserved c =
    let price = cost_over c.args.routes.now c.args.total c.args.onward.now c.args.at in
    let best = c.loop-switch.best in
    let x = get_or c.args.allowed.now c.loop-switch.switch-index 0 in
    let tested = ap (λ (k : ℕ). is_before k (price best) x best) (sym c.cost_over-cost.ensures) ∙ ap (λ (k : ℕ). is_before c.cost_over-cost.result k x best) (sym c.loop-switch.invariant.least) ∙ sym c.is_before.ensures in
    elim c.if-is_before.branch [
      | then-is_before w ↦ record {
        best = IsBestSo-cheaper price c.args.allowed.now c.loop-switch.switch-index best c.if-is_before.best c.loop-switch-test.true (tested ∙ w.if-is_before.true) w.best-is c.loop-switch.invariant.best;
        least = w.least-is ∙ c.cost_over-cost.ensures ∙ ap price (sym w.best-is);
      }
      | else-is_before w ↦ record {
        best = IsBestSo-dearer price c.args.allowed.now c.loop-switch.switch-index best c.if-is_before.best c.loop-switch-test.true (tested ∙ w.if-is_before.false) w.best-is c.loop-switch.invariant.best;
        least = w.least-is ∙ c.loop-switch.invariant.least ∙ ap price (sym w.best-is);
      }
    ]
