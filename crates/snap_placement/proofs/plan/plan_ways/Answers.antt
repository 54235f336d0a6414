use Rattle.std.proofs.Common.{◌≡◌, ◌<◌, ◌-◌, ◌+◌, ℕ, List, ◌∷◌, [], All, drop, get_or, length, subst, sym, arith}
use Rattle.std.specs.List.{sum_by}
use Rattle.std.proofs.lemmas.List.Elements.{All-get_or}
use Rattle.snap_topology.specs.Tables.{distance_of}
use Rattle.snap_placement.specs.Placements.{places_of}
use Rattle.snap_placement.specs.Steps.{IsPlan, IsStage, choices}
use Rattle.snap_placement.proofs.Bests.{choices-all, choices-from, plan-more}
use Rattle.snap_placement.proofs.Costing.{weight_of}
use Rattle.snap_placement.proofs.Staging.{plan-none, stage-low}
use Rattle.snap_placement.proofs.plan.plan_ways.Goals as goal

pub ranks-init : goal.ranks-init
ranks-init c =
    let d = distance_of c.args.routes.now in
    let trips = c.args.trips.now in
    let n = c.args.count in
    let order = c.args.order.now in
    let costs = c.in_ok-costs.costs.items in
    let none = plan-none c.args.routes.now trips n costs c.in_ok-costs.ensures.count c.in_ok-costs.ensures.costs in
    record {
      some = c.requires.some;
      left = omega arith;
      plan = subst (λ (cs : List (List ℕ)). IsPlan d trips cs n c.new-nexts.result.items costs) (sym (choices-all order c.args.allowed.now (length order) (omega arith)))
          (subst (λ (ns : List (List ℕ)). IsPlan d trips [] n ns costs) (sym c.new-nexts.ensures.items) none);
      low = λ x lt. let small = c.in_ok-costs.ensures.small x lt in let few = c.requires.groups in omega arith;
    }

pub ranks-preserved : goal.ranks-preserved
ranks-preserved c =
    let routes = c.args.routes.now in
    let d = distance_of routes in
    let trips = c.args.trips.now in
    let n = c.args.count in
    let order = c.args.order.now in
    let allowed = c.args.allowed.now in
    let left = c.ranks.left - 1 in
    let costs = c.ranks.costs.items in
    let prices = c.in_ok-made.made.costs.items in
    let row = c.in_ok-made.made.nexts in
    let more = c.ranks-test.true in
    let before = c.ranks.invariant in
    let within = before.left in
    let lt : left < length order = omega arith in
    let next : c.ranks.left ≡ left + 1 = omega arith in
    let place = places_of allowed (get_or order left 0) in
    let below = All-get_or (λ (v : ℕ). All (λ (m : ℕ). m < n) (places_of allowed v)) order left 0 lt c.requires.below in
    let stage = subst (λ (t : ℕ). IsStage routes t n place costs row prices) c.requires.total
    (subst (λ (xs : List ℕ). IsStage routes c.args.total n place xs row prices) c.deref.ensures.value
    (subst (λ (xs : List ℕ). IsStage routes c.args.total n xs c.deref.result.now row prices) c.of.ensures c.in_ok-made.ensures)) in
    let light : sum_by weight_of trips < 281474976710656 = let t = c.requires.total in let l = c.requires.light in omega arith in
    record {
      some = omega arith;
      left = omega arith;
      plan = subst (λ (cs : List (List ℕ)). IsPlan d trips cs n c.insert.new.self.items prices) (sym (choices-from order allowed left c.ranks.left next lt))
          (subst (λ (ns : List (List ℕ)). IsPlan d trips (place ∷ drop c.ranks.left (choices order allowed)) n ns prices) (sym c.in_ok-insert.ensures.items)
          (plan-more routes trips place (drop c.ranks.left (choices order allowed)) n c.ranks.nexts.items costs row prices stage below before.plan));
      low = stage-low routes (sum_by weight_of trips) n place costs row prices left c.ranks.left 4683743612465315840 c.requires.near c.requires.count light below stage next before.low;
    }

pub returns-clause-plan : goal.returns-clause-plan
returns-clause-plan c =
    let some = c.ranks.invariant.some in
    let end = c.ranks-test.false in
    let one : c.ranks.left ≡ 1 = omega arith in
    subst (λ (k : ℕ). IsPlan (distance_of c.args.routes.now) c.args.trips.now (drop k (choices c.args.order.now c.args.allowed.now)) c.args.count c.ranks.nexts.items c.ranks.costs.items) one c.ranks.invariant.plan
