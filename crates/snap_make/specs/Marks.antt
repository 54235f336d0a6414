-- Sets of switches, and the switches on the ways to a target.
use Rattle.std.specs.Prelude.{◌≡◌, ◌≢◌, ◌⊎◌, ℕ, ◌<◌, ◌≤◌, ◌/◌, ◌%◌, Bool, true, List, [], ◌∷◌, slice_index}
use Rattle.snap_core.specs.declared.policy.Update.{Update}
use Rattle.snap_core.specs.Arrays.{has}
use Rattle.snap_topology.specs.Tables.{Table, switch_count, distance_of, next_of}
use Rattle.snap_make.specs.declared.switches.Switches.{Switches}

-- the switch is in the set
unfoldable pub has_switch : Switches → ℕ → Bool
has_switch s v = has (slice_index s.words (v / 64)) (v % 64)

abbrev pub IsMarked : Switches → ℕ → Type 0
IsMarked s v = has_switch s v ≡ true

-- each next hop towards a switch is a switch, and nearer
abbrev pub ComesNearer : Table → Type 0
ComesNearer routes = (v target : ℕ) → v < switch_count routes → target < switch_count routes → v ≢ target
    → (next_of routes v target < switch_count routes) × (distance_of routes (next_of routes v target) target < distance_of routes v target)

-- a switch behind another on the way to the target
pub data IsBehind (routes : Table) (target : ℕ) : ℕ → ℕ → Type 0 where
  next_one : {w : ℕ} → w ≢ target → IsBehind routes target w (next_of routes w target)
  later_one : {w v : ℕ} → w ≢ target → IsBehind routes target (next_of routes w target) v → IsBehind routes target w v

-- a switch on the walk from one to the places of updates, one after another
abbrev pub IsOnWalk : Table → (ℕ → ℕ) → ℕ → List Update → ℕ → Type 0
IsOnWalk routes place from [] v = ⊥
IsOnWalk routes place from (u ∷ us) v = IsBehind routes (place u.var) from v ⊎ IsOnWalk routes place (place u.var) us v

-- what marking the way from a switch on leaves: marks stay, new ones are on the way, and each new one and the switch itself hand theirs on
pub record MarksWay (routes : Table) (target at : ℕ) (old new : Switches) : Type 0 where
  pub kept : (v : ℕ) → IsMarked old v → IsMarked new v
  pub sound : (v : ℕ) → IsMarked new v → IsMarked old v ⊎ IsBehind routes target at v
  pub here : at ≢ target → IsMarked new (next_of routes at target)
  pub closed : (v : ℕ) → IsMarked new v → IsMarked old v ⊎ ((v ≡ target) ⊎ IsMarked new (next_of routes v target))

-- what marking the ways of all marked switches leaves: marks stay, new ones are on the way from an old one, and each but the
-- target hands its own on
pub record MarksWays (routes : Table) (target : ℕ) (old new : Switches) : Type 0 where
  pub kept : (v : ℕ) → IsMarked old v → IsMarked new v
  pub sound : (v : ℕ) → IsMarked new v → IsMarked old v ⊎ ((u : ℕ) × IsMarked old u × IsBehind routes target u v)
  pub closed : (v : ℕ) → v < switch_count routes → IsMarked new v → (v ≡ target) ⊎ IsMarked new (next_of routes v target)

-- the same where the switches below i are done
pub record MarksSoFar (routes : Table) (target : ℕ) (old : Switches) (i : ℕ) (new : Switches) : Type 0 where
  pub kept : (v : ℕ) → IsMarked old v → IsMarked new v
  pub sound : (v : ℕ) → IsMarked new v → IsMarked old v ⊎ ((u : ℕ) × IsMarked old u × IsBehind routes target u v)
  pub closed : (v : ℕ) → IsMarked new v → (i ≤ v) ⊎ ((v ≡ target) ⊎ IsMarked new (next_of routes v target))

-- what marking the whole way from a switch on leaves: marks stay, and new are those of the way, all of them
pub record MarksLine (routes : Table) (target at : ℕ) (old new : Switches) : Type 0 where
  pub kept : (v : ℕ) → IsMarked old v → IsMarked new v
  pub sound : (v : ℕ) → IsMarked new v → IsMarked old v ⊎ IsBehind routes target at v
  pub whole : (v : ℕ) → IsBehind routes target at v → IsMarked new v

-- and what marking a walk leaves
pub record MarksWalk (routes : Table) (place : ℕ → ℕ) (from : ℕ) (us : List Update) (old new : Switches) : Type 0 where
  pub kept : (v : ℕ) → IsMarked old v → IsMarked new v
  pub sound : (v : ℕ) → IsMarked new v → IsMarked old v ⊎ IsOnWalk routes place from us v
  pub whole : (v : ℕ) → IsOnWalk routes place from us v → IsMarked new v

-- the same where the walk has come to a switch, and some updates are left
pub record WalksSoFar (routes : Table) (place : ℕ → ℕ) (from : ℕ)
    (us : List Update) (at : ℕ) (left : List Update) (old new : Switches) : Type 0 where
  pub low : at < switch_count routes
  pub kept : (v : ℕ) → IsMarked old v → IsMarked new v
  pub sound : (v : ℕ) → IsMarked new v → IsMarked old v ⊎ IsOnWalk routes place from us v
  pub inside : (v : ℕ) → IsOnWalk routes place at left v → IsOnWalk routes place from us v
  pub whole : (v : ℕ) → IsOnWalk routes place from us v → IsMarked new v ⊎ IsOnWalk routes place at left v
