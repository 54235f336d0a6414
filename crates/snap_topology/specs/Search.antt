-- What a search by levels knows.
use Rattle.std.specs.Prelude.{◌≡◌, ◌<◌, ◌+◌, ◌⊎◌, ℕ, List, length, Contains, Option, Some, None, IsSome, is_none, count_by, MatchOption, slice_index_or}
use Rattle.snap_topology.specs.Walks.{IsDistance, HasWalk}
use Rattle.snap_topology.specs.Graphs.{Adjacent}

-- what is known of a switch's distance
abbrev pub distance_in : List (Option ℕ) → ℕ → Option ℕ
distance_in ds v = slice_index_or ds v None

-- how many switches are not reached
abbrev pub unreached : List (Option ℕ) → ℕ
unreached ds = count_by is_none ds

-- each distance to the target is known, or there is no walk
pub record Settles (graph : List (List ℕ)) (target : ℕ) (ds : List (Option ℕ)) : Type 0 where
  pub count : length ds ≡ length graph
  pub each : (v : ℕ) → v < length graph
      → MatchOption (distance_in ds v) (HasWalk (Adjacent graph) v target → ⊥) (IsDistance (Adjacent graph) v target)

-- the switches of vs that were not reached are so at distance d, and are the next level
pub record Reaches (vs : List ℕ) (d : ℕ) (old new : List (Option ℕ)) (level further : List ℕ) : Type 0 where
  pub count : length new ≡ length old
  pub kept : (v k : ℕ) → distance_in old v ≡ Some k → distance_in new v ≡ Some k
  pub fresh : (v k : ℕ) → distance_in new v ≡ Some k → (distance_in old v ≡ Some k) ⊎ ((k ≡ d) × (Contains vs v × Contains further v))
  pub reached : (v : ℕ) → Contains vs v → IsSome (distance_in new v)
  pub held : (v : ℕ) → Contains level v → Contains further v
  pub added : (v : ℕ) → Contains further v → Contains level v ⊎ (Contains vs v × (distance_in new v ≡ Some d))
  pub fewer : unreached new + length further ≡ unreached old + length level
