use Rattle.std.proofs.Common.{◌∙◌, ◌<◌, ◌≤◌, ℕ, List, All, ap, length, slice_index, subst, sym, arith}
use Rattle.snap_dep.specs.Ranks.{rank_of}
use Rattle.snap_topology.specs.Tables.{distance_of}
use Rattle.snap_placement.specs.declared.trips.End.TheVariants.{From, To}
use Rattle.snap_placement.specs.Costs.{cost_of}
use Rattle.snap_placement.specs.Placements.{places_of}
use Rattle.snap_placement.proofs.Near.{near}
use Rattle.snap_placement.proofs.Ranked.{fewer-groups, found-long, of-groups, ordered}
use Rattle.snap_placement.proofs.Tripped.{below-count, best-of, trips-are}
use Rattle.snap_placement.proofs.search.seek.Goals as goal

pub all_stops-requires-clause-from : goal.all_stops-requires-clause-from
all_stops-requires-clause-from c =
    below-count From c.args.topology.now c.args.demand.now.flows c.items-2.result.now c.items-3.result.now c.deref.result.now c.in_ok-trips.trips.items c.items.result.now c.requires.form c.requires.demand.ports
    c.items.ensures c.items-2.ensures c.items-3.ensures c.in_ok-trips.ensures c.deref.ensures.value

pub all_stops-requires-clause-to : goal.all_stops-requires-clause-to
all_stops-requires-clause-to c =
    below-count To c.args.topology.now c.args.demand.now.flows c.items-2.result.now c.items-3.result.now c.deref.result.now c.in_ok-trips.trips.items c.items.result.now c.requires.form c.requires.demand.ports
    c.items.ensures c.items-2.ensures c.items-3.ensures c.in_ok-trips.ensures c.deref.ensures.value

-- the groups' order, as it was lent
pub all_stops-requires-clause-groups : goal.all_stops-requires-clause-groups
all_stops-requires-clause-groups c =
    let is = ap (λ (o : List ℕ). length o) c.order.ensures in
    let few = c.count-arrays.ensures.ranked.few in
    let fewer = fewer-groups c.args.groups.now (ordered c.args.groups.now c.requires.groups) in
    omega arith

pub all_stops-requires-clause-arrays : goal.all_stops-requires-clause-arrays
all_stops-requires-clause-arrays c =
    let g = c.args.groups.now in
    let allowed = c.args.demand.now.allowed in
    subst (λ (o : List ℕ). All (λ (v : ℕ). v < length allowed) o) (sym c.order.ensures)
    (of-groups g (λ (v : ℕ). v < length allowed) (ordered g c.requires.groups) (λ v lt. let count = c.requires.demand.count in omega arith))

pub all_stops-requires-clause-places : goal.all_stops-requires-clause-places
all_stops-requires-clause-places c =
    let g = c.args.groups.now in
    let allowed = c.args.demand.now.allowed in
    subst (λ (o : List ℕ). All (λ (v : ℕ). 1 ≤ length (places_of allowed v)) o) (sym c.order.ensures)
    (of-groups g (λ (v : ℕ). 1 ≤ length (places_of allowed v)) (ordered g c.requires.groups) c.requires.demand.some)

pub all_stops-requires-clause-below : goal.all_stops-requires-clause-below
all_stops-requires-clause-below c =
    let g = c.args.groups.now in
    let allowed = c.args.demand.now.allowed in
    subst (λ (ns : List (List ℕ)). All (λ (v : ℕ). All (λ (m : ℕ). m < length ns) (places_of allowed v)) c.order.result.now) (sym c.items.ensures)
    (subst (λ (o : List ℕ). All (λ (v : ℕ). All (λ (m : ℕ). m < length c.args.topology.now.switches) (places_of allowed v)) o) (sym c.order.ensures)
    (of-groups g (λ (v : ℕ). All (λ (m : ℕ). m < length c.args.topology.now.switches) (places_of allowed v)) (ordered g c.requires.groups) c.requires.demand.below))

pub all_stops-requires-clause-near : goal.all_stops-requires-clause-near
all_stops-requires-clause-near c = near c.args.topology.now c.args.routes.now c.requires.form c.requires.routes

pub owners-requires : goal.owners-requires
owners-requires c =
    ap (λ (xs : List ℕ). length xs) c.deref-2.ensures.value
    ∙ found-long c.args.groups.now c.order.result.now c.args.demand.now.allowed (cost_of (distance_of c.args.routes.now) c.deref.result.now) c.in_ok-found.found.switches.items c.order.ensures c.in_ok-found.ensures.best

pub returns : goal.returns
returns c =
    let g = c.args.groups.now in
    let topology = c.args.topology.now in
    let demand = c.args.demand.now in
    let are = trips-are topology demand.flows c.items-2.result.now c.items-3.result.now c.deref.result.now c.in_ok-trips.trips.items c.items-2.ensures c.items-3.ensures c.in_ok-trips.ensures c.deref.ensures.value in
    best-of g topology c.args.routes.now demand c.in_ok-found.found.cost c.order.result.now c.deref.result.now c.in_ok-found.found.switches.items c.in_ok-owners.owners.items c.new.result c.requires.groups c.requires.demand
    c.order.ensures are c.in_ok-found.ensures.best c.in_ok-found.ensures.cost c.in_ok-owners.ensures.count
    (λ v lt. c.in_ok-owners.ensures.each v lt ∙ ap (λ (xs : List ℕ). slice_index xs (rank_of g v)) c.deref-2.ensures.value) c.new.ensures
