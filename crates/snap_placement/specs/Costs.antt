-- What a placement costs.
use Rattle.std.specs.Prelude.{ℕ, ◌+◌, ◌*◌, ◌++◌, List, [], ◌∷◌, unwrap_or}
use Rattle.std.specs.List.{sum_by}
use Rattle.snap_core.specs.declared.ports.PortAt.{PortAt}
use Rattle.snap_core.specs.Ports.{port_in}
use Rattle.snap_placement.specs.declared.demand.Flow.{Flow}
use Rattle.snap_placement.specs.declared.trips.Trip.{Trip}

-- the length of the way from a switch through those of a list, one after the other
abbrev pub along : (ℕ → ℕ → ℕ) → ℕ → List ℕ → ℕ
along d at [] = 0
along d at (next ∷ rest) = d at next + along d next rest

abbrev pub switch_of : List PortAt → ℕ → ℕ
switch_of ports port = unwrap_or (port_in ports port) 0

-- a flow between the switches of its ports
abbrev pub trip_of : List PortAt → Flow → Trip
trip_of ports f = record { from = switch_of ports f.from; to = switch_of ports f.to; weight = f.weight }

-- what is left of the trips to cost from a switch on, through the switches of a list
abbrev pub cost_from : (ℕ → ℕ → ℕ) → List Trip → ℕ → List ℕ → ℕ
cost_from d trips at stops = sum_by (λ (t : Trip). t.weight * along d at (stops ++ t.to ∷ [])) trips

-- weight times length, summed over the trips, each of which goes through the switches of the groups by rank
abbrev pub cost_of : (ℕ → ℕ → ℕ) → List Trip → List ℕ → ℕ
cost_of d trips stops = sum_by (λ (t : Trip). t.weight * along d t.from (stops ++ t.to ∷ [])) trips
