use Rattle.std.proofs.Common.{◌∙◌, ℕ, List, ap, arith}
use Rattle.snap_placement.specs.Steps.{leg, weighed}
use Rattle.snap_placement.proofs.Filling.{Fills-more}
use Rattle.snap_placement.proofs.Staging.{end-small, fits-by}
use Rattle.snap_placement.proofs.price.end_costs.Goals as goal

pub cost_at-requires-clause-fits : goal.cost_at-requires-clause-fits
cost_at-requires-clause-fits c =
    let routes = c.args.routes.now in
    let f = λ (at : ℕ). leg routes c.args.end at c.loop-switch.switch in
    fits-by _ _ (ap (λ (xs : List ℕ). weighed f 0 xs) c.deref.ensures.value ∙ c.in_ok-sums.ensures.sums f)
    (end-small routes c.args.end c.args.trips.now c.args.count c.loop-switch.switch c.requires.near c.requires.count c.loop-switch-test.true c.requires.below c.requires.weight)

pub loop-switch-preserved : goal.loop-switch-preserved
loop-switch-preserved c =
    let f = λ (at : ℕ). leg c.args.routes.now c.args.end at c.loop-switch.switch in
    Fills-more _ c.loop-switch.switch c.cost_at.result c.loop-switch.costs.items c.push.new.self.items c.in_ok-push.ensures.items
    (c.cost_at.ensures ∙ ap (λ (xs : List ℕ). weighed f 0 xs) c.deref.ensures.value ∙ c.in_ok-sums.ensures.sums f) c.loop-switch.invariant

pub returns-clause-small : goal.returns-clause-small
returns-clause-small c = λ at lt.
    let is = c.loop-switch.invariant.each at (omega arith) in
    let small = end-small c.args.routes.now c.args.end c.args.trips.now c.args.count at c.requires.near c.requires.count lt c.requires.below c.requires.weight in
    omega arith
