-- The trips of a demand, and the best placement by rank as one by variable.
use Rattle.std.proofs.Common.{◌≡◌, ◌∙◌, ◌<◌, ℕ, List, All, length, map, sym, ap, subst, slice_index}
use Rattle.snap_core.specs.declared.ports.PortAt.{PortAt}
use Rattle.snap_dep.specs.Ranks.{Grouping, rank_of}
use Rattle.snap_topology.specs.declared.topology.Topology.{Topology}
use Rattle.snap_topology.specs.Form.{IsWellFormed}
use Rattle.snap_topology.specs.Tables.{Table, distance_of}
use Rattle.snap_placement.specs.declared.demand.Demand.{Demand}
use Rattle.snap_placement.specs.declared.demand.Flow.{Flow}
use Rattle.snap_placement.specs.declared.trips.End.{End}
use Rattle.snap_placement.specs.declared.trips.Trip.{Trip}
use Rattle.snap_placement.specs.Costs.{cost_of, trip_of}
use Rattle.snap_placement.specs.Placements.{AreGroups, IsBestOf, IsDemand, HasPorts}
use Rattle.snap_placement.specs.Steps.{IsBest, choices, end_of}
use Rattle.snap_placement.proofs.Ported.{trips-below}
use Rattle.snap_placement.proofs.Ranked.{least-owners, ordered, stops-are}

-- the ends of a demand's trips are switches
pub below-count : (end : End) (topology : Topology) (flows : List Flow) (ports : List PortAt) (listed : List Flow) (seen trips : List Trip) (names : List (List ℕ)) → IsWellFormed topology → All (HasPorts topology.ports) flows
    → names ≡ topology.switches → ports ≡ topology.ports → listed ≡ flows → trips ≡ map (trip_of ports) listed → seen ≡ trips → All (λ (t : Trip). end_of end t < length names) seen
below-count end topology flows ports listed seen trips names form known are there all made same =
    let n = length topology.switches in
    let low = trips-below end n topology.ports flows form.ports known in
    let is : seen ≡ map (trip_of topology.ports) flows = same ∙ made ∙ ap (λ (ps : List PortAt). map (trip_of ps) listed) there ∙ ap (λ (fs : List Flow). map (trip_of topology.ports) fs) all in
    subst (λ (ns : List (List ℕ)). All (λ (t : Trip). end_of end t < length ns) seen) (sym are) (subst (λ (ts : List Trip). All (λ (t : Trip). end_of end t < n) ts) (sym is) low)

pub trips-are : (topology : Topology) (flows : List Flow) (ports : List PortAt) (listed : List Flow) (seen trips : List Trip) → ports ≡ topology.ports → listed ≡ flows → trips ≡ map (trip_of ports) listed → seen ≡ trips → seen ≡ map (trip_of topology.ports) flows
trips-are topology flows ports listed seen trips there all made same = same ∙ made ∙ ap (λ (ps : List PortAt). map (trip_of ps) listed) there ∙ ap (λ (fs : List Flow). map (trip_of topology.ports) fs) all

-- the owners of the best switches by rank
pub best-of : (g : Grouping) (topology : Topology) (routes : Table) (demand : Demand) (price : ℕ) (order : List ℕ) (trips : List Trip) (found owners made : List ℕ) → AreGroups g → IsDemand g topology demand
    → order ≡ g.order → trips ≡ map (trip_of topology.ports) demand.flows → IsBest (cost_of (distance_of routes) trips) (choices order demand.allowed) found → price ≡ cost_of (distance_of routes) trips found
    → length owners ≡ length g.ranks → ((v : ℕ) → v < length g.ranks → slice_index owners v ≡ slice_index found (rank_of g v)) → made ≡ owners → IsBestOf g topology routes demand (record { cost = price; owners = made })
best-of g topology routes demand price order trips found owners made groups given by-rank are best is count each same =
    let d = distance_of routes in
    let all = map (trip_of topology.ports) demand.flows in
    let best' = subst (λ (o : List ℕ). IsBest (cost_of d all) (choices o demand.allowed) found) by-rank (subst (λ (ts : List Trip). IsBest (cost_of d ts) (choices order demand.allowed) found) are best) in
    let ord = ordered g groups in
    let least = least-owners g demand.allowed (cost_of d all) found owners ord given.together best' count each in
    let through = stops-are g demand.allowed (cost_of d all) found owners ord given.together best' count each in
    subst (λ (os : List ℕ). IsBestOf g topology routes demand (record { cost = price; owners = os })) (sym same) (record {
      owners = least;
      cost = is ∙ ap (λ (ts : List Trip). cost_of d ts found) are ∙ ap (cost_of d all) (sym through);
    })
