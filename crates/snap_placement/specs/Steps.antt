-- What a search for the best placement knows, rank by rank.
use Rattle.std.specs.Prelude.{◌≡◌, ◌≢◌, ◌<◌, ◌≤◌, ◌+◌, ◌*◌, ℕ, Bool, ◌==◌, ◌&&◌, ◌||◌, nat_lt, List, [], ◌∷◌, All, Contains, length, map, slice_index}
use Rattle.std.specs.Ordering.{nat_cmp}
use Rattle.std.specs.Cmp.Lexicographic.{slice_cmp}
use Rattle.std.specs.declared.cmp.Ordering.TheVariants.{Greater}
use Rattle.snap_topology.specs.Tables.{Table, distance_of, switch_count}
use Rattle.snap_placement.specs.declared.trips.Trip.{Trip}
use Rattle.snap_placement.specs.declared.trips.End.{End}
use Rattle.snap_placement.specs.declared.trips.End.TheVariants.{From, To}
use Rattle.snap_placement.specs.Costs.{cost_from}
use Rattle.snap_placement.specs.Placements.{places_of}

-- each distance is at most 255
abbrev pub AreNear : Table → Type 0
AreNear t = (a b : ℕ) → a < switch_count t → b < switch_count t → distance_of t a b ≤ 255

-- the switch of one end of a trip
abbrev pub end_of : End → Trip → ℕ
end_of From t = t.from
end_of To t = t.to

-- the distance from an end where trips begin to a switch, or from the switch to an end where they end
abbrev pub leg : Table → End → ℕ → ℕ → ℕ
leg t From end at = distance_of t end at
leg t To end at = distance_of t at end

-- the sum of the weights, each times f of its place
abbrev pub weighed : (ℕ → ℕ) → ℕ → List ℕ → ℕ
weighed f at [] = 0
weighed f at (w ∷ ws) = w * f at + weighed f (at + 1) ws

-- the cost of going on over a switch
abbrev pub over : List ℕ → List ℕ → ℕ → ℕ
over near onward at = slice_index near at + slice_index onward at

-- the cost of going from a switch on over another, where a unit of distance costs total
abbrev pub cost_over : Table → ℕ → List ℕ → ℕ → ℕ → ℕ
cost_over routes total onward at to = total * distance_of routes at to + slice_index onward to

-- whether one switch comes before another, by their costs and then by number
abbrev pub is_before : ℕ → ℕ → ℕ → ℕ → Bool
is_before cost other_cost switch other = nat_lt cost other_cost || ((cost == other_cost) && nat_lt switch other)

abbrev pub is_cheaper : (ℕ → ℕ) → ℕ → ℕ → Bool
is_cheaper cost a b = is_before (cost a) (cost b) a b

-- n costs least of some switches, and has the least number of those that cost least
pub record IsCheapest (cost : ℕ → ℕ) (switches : List ℕ) (n : ℕ) : Type 0 where
  pub member : Contains switches n
  pub least : (m : ℕ) → Contains switches m → cost n ≤ cost m
  pub first : (m : ℕ) → Contains switches m → cost m ≡ cost n → n ≤ m

-- where each of some groups may stand
abbrev pub choices : List ℕ → List (List ℕ) → List (List ℕ)
choices order allowed = map (λ v. places_of allowed v) order

-- a switch of each choice
abbrev pub Picks : List (List ℕ) → List ℕ → Type 0
Picks [] [] = Unit {0}
Picks [] (x ∷ xs) = ⊥
Picks (c ∷ cs) [] = ⊥
Picks (c ∷ cs) (x ∷ xs) = Contains c x × Picks cs xs

-- no pick costs less, and of those that cost as much none is before
pub record IsBest (cost : List ℕ → ℕ) (choices : List (List ℕ)) (picked : List ℕ) : Type 0 where
  pub picks : Picks choices picked
  pub least : (other : List ℕ) → Picks choices other → cost picked ≤ cost other
  pub first : (other : List ℕ) → Picks choices other → cost other ≡ cost picked → slice_cmp nat_cmp picked other ≢ Greater

-- from a switch on, the next switch of each rank is looked up
abbrev pub path : List (List ℕ) → ℕ → List ℕ
path [] at = []
path (nexts ∷ rest) at = slice_index nexts at ∷ path rest (slice_index nexts at)

-- for each of n switches the cheapest next one, where a unit of distance costs total
pub record IsStage (routes : Table) (total n : ℕ) (allowed onward nexts costs : List ℕ) : Type 0 where
  pub long : length nexts ≡ n
  pub count : length costs ≡ n
  pub cheapest : (x : ℕ) → x < n → IsCheapest (cost_over routes total onward x) allowed (slice_index nexts x)
  pub cost : (x : ℕ) → x < n → slice_index costs x ≡ cost_over routes total onward x (slice_index nexts x)

-- a next switch for each of n switches
pub record IsRow (n : ℕ) (nexts : List ℕ) : Type 0 where
  pub count : length nexts ≡ n
  pub below : (x : ℕ) → x < n → slice_index nexts x < n

-- for each of n switches the best way on through some choices, and its cost
pub record IsPlan (d : ℕ → ℕ → ℕ) (trips : List Trip) (choices : List (List ℕ))
    (n : ℕ) (nexts : List (List ℕ)) (costs : List ℕ) : Type 0 where
  pub count : length costs ≡ n
  pub rows : All (IsRow n) nexts
  pub best : (x : ℕ) → x < n → IsBest (cost_from d trips x) choices (path nexts x)
  pub cost : (x : ℕ) → x < n → slice_index costs x ≡ cost_from d trips x (path nexts x)

-- from a switch on, each next switch is in its row
abbrev pub Follows : List (List ℕ) → ℕ → Type 0
Follows [] at = Unit {0}
Follows (nexts ∷ rest) at = (at < length nexts) × Follows rest (slice_index nexts at)
