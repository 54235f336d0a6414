use Rattle.std.proofs.Common.{◌≡◌, ◌∙◌, ◌<◌, ◌∷◌, ℕ, List, All, ap, subst}
use Rattle.std.proofs.lemmas.List.Elements.{All-contains, All-get_or}
use Rattle.std.proofs.lemmas.Result.{IfOk-weaker}
use Rattle.std.specs.List.{Contains}
use Rattle.snap_topology.specs.Tables.{distance_of}
use Rattle.snap_placement.specs.Costs.{cost_of}
use Rattle.snap_placement.specs.Placements.{places_of}
use Rattle.snap_placement.specs.Steps.{IsBest, choices, over, path}
use Rattle.snap_placement.proofs.Bests.{follows, found-first}
use Rattle.snap_placement.proofs.search.best_stops.Goals as goal
use Rattle.snap_core.proofs.Results.{IfOk-both}

pub stops_from-requires-clause-rows : goal.stops_from-requires-clause-rows
stops_from-requires-clause-rows c =
    let n = c.args.count in
    let first = c.cheapest-first.result in
    let low = All-get_or (λ (v : ℕ). All (λ (m : ℕ). m < n) (places_of c.args.allowed.now v)) c.args.order.now 0 0 c.requires.some c.requires.below in
    let here = subst (λ (xs : List ℕ). Contains xs first) c.of.ensures c.cheapest-first.ensures.member in
    follows n c.in_ok-plan.plan.nexts.items first c.in_ok-plan.ensures.plan.rows (All-contains (λ (m : ℕ). m < n) _ first low here)

pub returns-clause-best : goal.returns-clause-best
returns-clause-best c =
    let first = c.cheapest-first.result in
    IfOk-weaker c.stops_from.result (λ found. found.switches.items ≡ first ∷ path c.in_ok-plan.plan.nexts.items first)
    (λ found. IsBest (cost_of (distance_of c.args.routes.now) c.args.trips.now) (choices c.args.order.now c.args.allowed.now) found.switches.items)
    (λ found is. (found-first c.args.routes.now c.args.trips.now c.args.order.now c.args.allowed.now c.args.count first c.in_ok-plan.plan.nexts.items c.in_ok-near.near.items c.in_ok-plan.plan.costs.items
    c.of.result.now c.deref.result.now c.deref-2.result.now found.switches.items c.requires.some c.of.ensures c.deref.ensures.value c.deref-2.ensures.value c.in_ok-near.ensures.costs c.requires.below
    c.cheapest-first.ensures c.in_ok-plan.ensures.plan is).0) c.stops_from.ensures.way

pub returns-clause-cost : goal.returns-clause-cost
returns-clause-cost c =
    let first = c.cheapest-first.result in
    IfOk-both c.stops_from.result (λ found. found.switches.items ≡ first ∷ path c.in_ok-plan.plan.nexts.items first) (λ found. found.cost ≡ over c.deref-3.result.now c.in_ok-plan.plan.costs.items first)
    (λ found. found.cost ≡ cost_of (distance_of c.args.routes.now) c.args.trips.now found.switches.items)
    (λ found is costs. costs ∙ ap (λ (xs : List ℕ). over xs c.in_ok-plan.plan.costs.items first) c.deref-3.ensures.value
    ∙ (found-first c.args.routes.now c.args.trips.now c.args.order.now c.args.allowed.now c.args.count first c.in_ok-plan.plan.nexts.items c.in_ok-near.near.items c.in_ok-plan.plan.costs.items
    c.of.result.now c.deref.result.now c.deref-2.result.now found.switches.items c.requires.some c.of.ensures c.deref.ensures.value c.deref-2.ensures.value c.in_ok-near.ensures.costs c.requires.below
    c.cheapest-first.ensures c.in_ok-plan.ensures.plan is).1) c.stops_from.ensures.way c.stops_from.ensures.cost
