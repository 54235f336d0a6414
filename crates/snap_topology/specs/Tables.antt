-- A table of routes, and when it is that of a topology.
use Rattle.std.specs.Prelude.{◌≡◌, ◌≢◌, ◌<◌, ℕ, List, [], length, map, All, slice_index, slice_index_or}
use Rattle.snap_topology.specs.declared.topology.Topology.{Topology}
use Rattle.snap_topology.specs.Walks.{Linked, IsDistance, IsNext, IsDiameter, IsFirstApart}

-- from each switch the distance to one target, and the next hop
pub record Row : Type 0 where
  pub distances : List ℕ
  pub nexts : List ℕ

-- the row by each switch's distance and next hop
abbrev pub row_by : List (ℕ × ℕ) → Row
row_by hops = record { distances = map (λ (h : ℕ × ℕ). h.0) hops; nexts = map (λ (h : ℕ × ℕ). h.1) hops }

-- a row for each target
pub record Table : Type 0 where
  pub rows : List Row
  pub diameter : ℕ

abbrev pub empty_row : Row
empty_row = record { distances = []; nexts = [] }

abbrev pub row_in : List Row → ℕ → Row
row_in rows target = slice_index_or rows target empty_row

abbrev pub row_of : Table → ℕ → Row
row_of t target = row_in t.rows target

abbrev pub switch_count : Table → ℕ
switch_count t = length t.rows

abbrev pub distance_of : Table → ℕ → ℕ → ℕ
distance_of t a b = slice_index (row_of t b).distances a

abbrev pub next_of : Table → ℕ → ℕ → ℕ
next_of t a b = slice_index (row_of t b).nexts a

-- a row has as many entries as the table has rows
pub record IsSquare (t : Table) : Type 0 where
  pub distances : All (λ (r : Row). length r.distances ≡ length t.rows) t.rows
  pub nexts : All (λ (r : Row). length r.nexts ≡ length t.rows) t.rows

-- the routes of a topology: distances, next hops and the diameter
pub record AreRoutes (topology : Topology) (t : Table) : Type 0 where
  pub count : switch_count t ≡ length topology.switches
  pub distances : (a b : ℕ) → a < length topology.switches → b < length topology.switches
      → IsDistance (Linked topology.links) a b (distance_of t a b)
  pub nexts : (a b : ℕ) → a < length topology.switches → b < length topology.switches
      → a ≢ b → IsNext (Linked topology.links) a b (next_of t a b)
  pub diameter : IsDiameter (Linked topology.links) (length topology.switches) t.diameter

-- the least pair of switches between which there is no walk
abbrev pub IsUnreachable : Topology → ℕ → ℕ → Type 0
IsUnreachable topology a b = IsFirstApart (Linked topology.links) (length topology.switches) a b
