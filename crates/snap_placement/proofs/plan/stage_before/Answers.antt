use Rattle.std.proofs.Common.{◌∙◌, ◌<◌, All, ℕ, subst, arith}
use Rattle.snap_placement.specs.Steps.{cost_over}
use Rattle.snap_placement.proofs.Filling.{Fills-more}
use Rattle.snap_placement.proofs.Staging.{cost-same, stage-of}
use Rattle.snap_placement.proofs.plan.stage_before.Goals as goal

pub next_from-next-requires-clause-allowed : goal.next_from-next-requires-clause-allowed
next_from-next-requires-clause-allowed c = subst (λ (n : ℕ). All (λ m. m < n) c.args.allowed.now) c.requires.count c.requires.allowed

pub next_from-next-requires-clause-fits : goal.next_from-next-requires-clause-fits
next_from-next-requires-clause-fits c = λ x lt. c.requires.fits x (omega (arith, lt, c.requires.count))

pub loop-at-preserved : goal.loop-at-preserved
loop-at-preserved c =
    let at = c.loop-at.at in
    let next = c.next_from-next.result.0 in
    let cost = c.next_from-next.result.1 in
    record {
      nexts = Fills-more _ at next c.loop-at.nexts.items c.push.new.self.items c.in_ok-push.ensures.items c.next_from-next.ensures.next c.loop-at.invariant.nexts;
      costs = Fills-more _ at cost c.loop-at.costs.items c.push-in-loop-at.new.self.items c.in_ok-push-2.ensures.items
          (λ m is. c.next_from-next.ensures.cost ∙ cost-same (cost_over c.args.routes.now c.args.total c.args.onward.now at) c.args.allowed.now next m c.next_from-next.ensures.next is) c.loop-at.invariant.costs;
    }

pub returns : goal.returns
returns c =
    stage-of c.args.routes.now c.args.total c.args.count c.loop-at.at c.args.allowed.now c.args.onward.now c.loop-at.nexts.items c.new.result c.loop-at.costs.items (omega arith) c.new.ensures c.loop-at.invariant.nexts c.loop-at.invariant.costs
