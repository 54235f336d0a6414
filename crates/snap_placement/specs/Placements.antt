-- Placements that are allowed, and the best of them.
use Rattle.std.specs.Prelude.{◌≡◌, ◌≢◌, ◌<◌, ◌≤◌, ℕ, List, [], All, Contains, IsSome, length, map, slice_index, slice_index_or}
use Rattle.std.specs.List.Sorted.{IsStrictlySortedBy}
use Rattle.std.specs.Ordering.{nat_cmp}
use Rattle.std.specs.Cmp.Lexicographic.{slice_cmp}
use Rattle.std.specs.declared.cmp.Ordering.TheVariants.{Greater}
use Rattle.snap_core.specs.declared.policy.Pol.{Pol}
use Rattle.snap_core.specs.declared.ports.PortAt.{PortAt}
use Rattle.snap_core.specs.Ports.{port_in}
use Rattle.snap_dep.specs.Ranks.{Grouping, IsGrouping, rank_of}
use Rattle.snap_topology.specs.declared.topology.Topology.{Topology}
use Rattle.snap_topology.specs.Tables.{Table, distance_of}
use Rattle.snap_placement.specs.declared.best.Best.{Best}
use Rattle.snap_placement.specs.declared.demand.Demand.{Demand}
use Rattle.snap_placement.specs.declared.demand.Flow.{Flow}
use Rattle.snap_placement.specs.declared.demand.TheConstants.{MOST_DEMANDS}
use Rattle.snap_placement.specs.Costs.{cost_of, trip_of}

-- the groups are those of a program
abbrev pub AreGroups : Grouping → Type 0
AreGroups g = (p : Pol) × IsGrouping p (length g.ranks) g

-- where the group of a variable may stand
abbrev pub places_of : List (List ℕ) → ℕ → List ℕ
places_of allowed v = slice_index_or allowed v []

-- the switch of each group, by rank, where owners has that of each variable
abbrev pub stops : Grouping → List ℕ → List ℕ
stops g owners = map (λ v. slice_index owners v) g.order

-- each variable has a switch at which its group may stand, and tied ones have the same
pub record IsAllowed (g : Grouping) (allowed : List (List ℕ)) (owners : List ℕ) : Type 0 where
  pub count : length owners ≡ length g.ranks
  pub may : (v : ℕ) → v < length g.ranks → Contains (places_of allowed v) (slice_index owners v)
  pub together : (a b : ℕ) → a < length g.ranks → b < length g.ranks
      → rank_of g a ≡ rank_of g b → slice_index owners a ≡ slice_index owners b

-- the cost of a placement
abbrev pub cost : Table → List PortAt → List Flow → Grouping → List ℕ → ℕ
cost routes ports flows g owners = cost_of (distance_of routes) (map (trip_of ports) flows) (stops g owners)

-- no allowed placement costs less, and of those that cost as much none has its switches by rank before
pub record IsLeast (g : Grouping) (allowed : List (List ℕ)) (price : List ℕ → ℕ) (owners : List ℕ) : Type 0 where
  pub fits : IsAllowed g allowed owners
  pub least : (other : List ℕ) → IsAllowed g allowed other → price owners ≤ price other
  pub first : (other : List ℕ) → IsAllowed g allowed other → price other ≡ price owners
      → slice_cmp nat_cmp (stops g owners) (stops g other) ≢ Greater

-- a placement of least cost, with its cost
pub record IsBestOf (g : Grouping) (topology : Topology) (routes : Table) (demand : Demand) (best : Best) : Type 0 where
  pub owners : IsLeast g demand.allowed (cost routes topology.ports demand.flows g) best.owners
  pub cost : best.cost ≡ cost routes topology.ports demand.flows g best.owners

-- both ports of a flow are there
abbrev pub HasPorts : List PortAt → Flow → Type 0
HasPorts ports f = IsSome (port_in ports f.from) × IsSome (port_in ports f.to)

-- a demand that can be met: few flows between ports of the topology, and for each group switches at which it may stand
pub record IsDemand (g : Grouping) (topology : Topology) (demand : Demand) : Type 0 where
  pub few : length demand.flows ≤ MOST_DEMANDS
  pub ports : All (HasPorts topology.ports) demand.flows
  pub count : length demand.allowed ≡ length g.ranks
  pub some : (v : ℕ) → v < length g.ranks → 1 ≤ length (places_of demand.allowed v)
  pub below : (v : ℕ) → v < length g.ranks → All (λ s. s < length topology.switches) (places_of demand.allowed v)
  pub rise : (v : ℕ) → v < length g.ranks → IsStrictlySortedBy nat_cmp (places_of demand.allowed v)
  pub together : (a b : ℕ) → a < length g.ranks → b < length g.ranks → rank_of g a ≡ rank_of g b
      → (at : ℕ) → Contains (places_of demand.allowed a) at → Contains (places_of demand.allowed b) at
