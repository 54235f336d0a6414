-- Next hops over a list of distances to one target.
use Rattle.std.specs.Prelude.{◌≡◌, ◌≢◌, ◌≤◌, ◌<◌, ℕ, List, length, Option, None, IsSome, Contains, slice_index}
use Rattle.snap_topology.specs.Graphs.{Adjacent, neighbours_of}
use Rattle.snap_topology.specs.Search.{distance_in}
use Rattle.snap_topology.specs.Tables.{Row, row_in}
use Rattle.snap_topology.specs.Walks.{IsDistance, HasWalk}

-- n is nearest among ms, and of least number among the nearest
pub record IsNearest (ms distances : List ℕ) (n : ℕ) : Type 0 where
  pub member : Contains ms n
  pub nearest : (m : ℕ) → Contains ms m → slice_index distances n ≤ slice_index distances m
  pub least : (m : ℕ) → Contains ms m → slice_index distances m ≡ slice_index distances n → n ≤ m

-- each switch's distance to the target
pub record AreDistances (graph : List (List ℕ)) (target : ℕ) (distances : List ℕ) : Type 0 where
  pub count : length distances ≡ length graph
  pub each : (v : ℕ) → v < length graph → IsDistance (Adjacent graph) v target (slice_index distances v)

-- n is of least number among those of ms that are nearer than d
pub record IsLeastNearer (ms distances : List ℕ) (d n : ℕ) : Type 0 where
  pub member : Contains ms n
  pub nearer : slice_index distances n < d
  pub least : (m : ℕ) → Contains ms m → slice_index distances m < d → n ≤ m

-- none of ms is nearer than d
abbrev pub NoneNearer : (ms distances : List ℕ) → ℕ → Type 0
NoneNearer ms distances d = (m : ℕ) → Contains ms m → d ≤ slice_index distances m

-- from each switch but the target the next hop is its nearest neighbour
abbrev pub AreNexts : (graph : List (List ℕ)) (target : ℕ) (distances nexts : List ℕ) → Type 0
AreNexts graph target distances nexts = (a : ℕ) → a < length graph
    → a ≢ target → IsNearest (neighbours_of graph a) distances (slice_index nexts a)

-- v is the first switch that was not reached
pub record IsFirstUnreached (ds : List (Option ℕ)) (v : ℕ) : Type 0 where
  pub below : v < length ds
  pub none : distance_in ds v ≡ None
  pub first : (w : ℕ) → w < v → IsSome (distance_in ds w)

-- v is the first switch from which no walk leads to the target
pub record IsFirstAway (graph : List (List ℕ)) (target v : ℕ) : Type 0 where
  pub below : v < length graph
  pub away : HasWalk (Adjacent graph) v target → ⊥
  pub first : (w : ℕ) → w < v → HasWalk (Adjacent graph) w target

-- the distances and next hops to one target
pub record IsToward (graph : List (List ℕ)) (target : ℕ) (row : Row) : Type 0 where
  pub distances : AreDistances graph target row.distances
  pub count : length row.nexts ≡ length graph
  pub nexts : AreNexts graph target row.distances row.nexts

-- some row has the distance
pub record HasDistance (rows : List Row) (d : ℕ) : Type 0 where
  pub target : ℕ
  pub below : target < length rows
  pub member : Contains (row_in rows target).distances d
