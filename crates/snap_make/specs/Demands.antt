-- What the pass over the numbers keeps.
use Rattle.std.specs.Prelude.{◌≡◌, ◌≢◌, ◌⊎◌, ℕ, ◌<◌, ◌≤◌, Bool, true, false, Option, Some, List, ◌∷◌, length, map, slice_get, option_map, unwrap_or, Contains}
use Rattle.std.specs.List.{All}
use Rattle.snap_core.specs.declared.policy.Test.{Test}
use Rattle.snap_core.specs.declared.policy.Update.{Update}
use Rattle.snap_core.specs.declared.ports.PortAt.{PortAt}
use Rattle.snap_topology.specs.Tables as route
use Rattle.snap_topology.specs.Tables.{Table, next_of}
use Rattle.snap_rows.specs.declared.tables.ArrayAt.{ArrayAt}
use Rattle.snap_rows.specs.declared.tables.Tables.{Tables}
use Rattle.snap_rows.specs.declared.tables.Row.{Row}
use Rattle.snap_rows.specs.declared.tables.Row.TheVariants.{Field, State, Last}
use Rattle.snap_rows.specs.declared.tables.Stage.{Stage as LeafStage}
use Rattle.snap_rows.specs.Entries.{Parts, var_of, next}
use Rattle.snap_rows.specs.Form.{switch_count}
use Rattle.snap_rows.specs.Ways.{Route}
use Rattle.snap_make.specs.declared.switches.Switches.{Switches}
use Rattle.snap_faithful.specs.Derived.{IsWanted}
use Rattle.snap_make.specs.Marks.{has_switch, IsMarked, ComesNearer, IsBehind, IsOnWalk}
use Rattle.snap_faithful.specs.OnDemand.{stages_of, place_of}

-- tables whose arrays and ports stand at switches, and whose next hops are those of the routes
pub record IsSetting (t : Tables) (routes : Table) : Type 0 where
  pub some : 1 ≤ switch_count t
  pub few : switch_count t ≤ 256
  pub arrays : All (λ (a : ArrayAt). a.at < switch_count t) t.arrays
  pub ports : All (λ (p : PortAt). p.at < switch_count t) t.ports
  pub count : route.switch_count routes ≡ switch_count t
  pub hops : (a b : ℕ) → a < switch_count t → b < switch_count t → a ≢ b → next t a b ≡ next_of routes a b
  pub nearer : ComesNearer routes

-- a packet with a number of this node comes from switch w through v with the same number
abbrev pub GoesAlong : Table → (ℕ → ℕ) → Row → ℕ → ℕ → Type 0
GoesAlong routes place (State test y z) w v = IsBehind routes (place (var_of test)) w v
GoesAlong routes place (Last us os) w v = IsOnWalk routes place w us v
GoesAlong routes place b w v = ⊥

-- packets come through the switch from one of the set, where `goes` says through which they come from which
pub data IsPassed (goes : ℕ → ℕ → Type 0) (old : Switches) : ℕ → Type 0 where
  marked : {v : ℕ} → IsMarked old v → IsPassed goes old v
  along : {w v : ℕ} → IsPassed goes old w → goes w v → IsPassed goes old v

-- the set with all through which packets come from its switches
pub record Settles (routes : Table) (goes : ℕ → ℕ → Type 0) (old new : Switches) : Type 0 where
  pub kept : (v : ℕ) → IsMarked old v → IsMarked new v
  pub sound : (v : ℕ) → IsMarked new v → IsPassed goes old v
  pub closed : (w v : ℕ) → w < route.switch_count routes → IsMarked new w → goes w v → IsMarked new v

-- a pair of switch and number is marked
abbrev pub has_pair : List Switches → ℕ → ℕ → Bool
has_pair marks w n = unwrap_or (option_map (λ s. has_switch s w) (slice_get marks n)) false

-- a number with this node, at the switches of the set, leads to number k at switch w
abbrev pub IsHanded : (ℕ → ℕ) → Row → Switches → ℕ → ℕ → Type 0
IsHanded place (Field test y z) s w k = ((k ≡ y) ⊎ (k ≡ z)) × IsMarked s w
IsHanded place (State test y z) s w k = ((k ≡ y) ⊎ (k ≡ z)) × (w ≡ place (var_of test)) × IsMarked s w
IsHanded place b s w k = ⊥

-- the switches of a set added to those of numbers y and z
pub record AddsToBoth (y z : ℕ) (s : Switches) (old new : List Switches) : Type 0 where
  pub wide : length new ≡ length old
  pub kept : (w k : ℕ) → has_pair old w k ≡ true → has_pair new w k ≡ true
  pub sound : (w k : ℕ) → has_pair new w k ≡ true → (has_pair old w k ≡ true) ⊎ (((k ≡ y) ⊎ (k ≡ z)) × IsMarked s w)
  pub whole : (w k : ℕ) → (k ≡ y) ⊎ (k ≡ z) → IsMarked s w → has_pair new w k ≡ true

-- the ways of a test row are below n
abbrev pub AreWaysBelow : ℕ → Row → Type 0
AreWaysBelow n (Field test y z) = (y < n) × (z < n)
AreWaysBelow n (State test y z) = (y < n) × (z < n)
AreWaysBelow n b = Unit {0}

-- the marks with all that are handed on
pub record HandsOn (place : ℕ → ℕ) (b : Row) (s : Switches) (old new : List Switches) : Type 0 where
  pub wide : length new ≡ length old
  pub kept : (w k : ℕ) → has_pair old w k ≡ true → has_pair new w k ≡ true
  pub sound : (w k : ℕ) → has_pair new w k ≡ true → (has_pair old w k ≡ true) ⊎ IsHanded place b s w k
  pub whole : (w k : ℕ) → IsHanded place b s w k → has_pair new w k ≡ true

-- the marks of number n are closed under single steps
pub record IsClosedAt (t : Tables) (nodes : ℕ → Option Row) (has : ℕ → ℕ → Bool) (n : ℕ) : Type 0 where
  pub fields : (w y z : ℕ) (test : Test) → nodes n ≡ Some (Field test y z) → has w n ≡ true → (has w y ≡ true) × (has w z ≡ true)
  pub owners : (w y z : ℕ) (test : Test) → nodes n ≡ Some (State test y z)
      → place_of t (var_of test) ≡ w → has w n ≡ true → (has w y ≡ true) × (has w z ≡ true)
  pub others : (w y z : ℕ) (test : Test) → nodes n ≡ Some (State test y z)
      → place_of t (var_of test) ≢ w → has w n ≡ true → has (next t w (place_of t (var_of test))) n ≡ true
  pub first : (w : ℕ) (us : List Update) (os : List Parts) (s : LeafStage) (ss : List LeafStage) → nodes n ≡ Some (Last us os)
      → stages_of (place_of t) us ≡ s ∷ ss → w ≢ s.at → has w n ≡ true → has (next t w s.at) n ≡ true
  pub rest : (w : ℕ) (us : List Update) (os : List Parts) (s : LeafStage) (ss : List LeafStage)
      → nodes n ≡ Some (Last us os) → stages_of (place_of t) us ≡ s ∷ ss → has w n ≡ true
      → (ws : List ℕ) → Route t s.at (map (λ (u : LeafStage). u.at) ss) ws → (x : ℕ) → Contains ws x → has x n ≡ true

-- marks of so many numbers, of wanted pairs alone, at the ports, and closed for the numbers below i
pub record AreDemanded (t : Tables) (nodes : ℕ → Option Row) (many i : ℕ) (marks : List Switches) : Type 0 where
  pub wide : length marks ≡ many
  pub low : (w n : ℕ) → has_pair marks w n ≡ true → w < switch_count t
  pub sound : (w n : ℕ) → has_pair marks w n ≡ true → IsWanted t nodes w n
  pub ports : (p w : ℕ) → Contains t.ports (record { port = p; at = w }) → has_pair marks w 0 ≡ true
  pub closed : (n : ℕ) → n < i → IsClosedAt t nodes (has_pair marks) n
