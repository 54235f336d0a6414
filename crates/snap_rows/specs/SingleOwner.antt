-- Single-owner tables: a packet's state tests and updates all belong to one switch.
use Rattle.std.specs.Prelude.{◌≡◌, ◌⊎◌, ℕ, Some, List, ◌∷◌, map, Contains}
use Rattle.std.specs.List.{All}
use Rattle.snap_core.specs.declared.policy.Test.{Test}
use Rattle.snap_rows.specs.declared.tables.ArrayAt.{ArrayAt}
use Rattle.snap_rows.specs.declared.tables.Tables.{Tables}
use Rattle.snap_rows.specs.declared.tables.Row.TheVariants.{Field, State, Leaf}
use Rattle.snap_rows.specs.declared.tables.Stage.{Stage as LeafStage}
use Rattle.snap_rows.specs.Entries.{Parts, node_of, owner_of, var_of}

-- a chain of yes and no from a number to a leaf: the state rows on it stand at these switches, and after them the leaf's stages
pub data Chain (t : Tables) : ℕ → List ℕ → Type 0 where
  field : {n y z x : ℕ} {test : Test} {ws : List ℕ} → node_of t n ≡ Some (Field test y z) → (x ≡ y) ⊎ (x ≡ z) → Chain t x ws → Chain t n ws
  state : {n y z x w : ℕ} {test : Test} {ws : List ℕ} → node_of t n ≡ Some (State test y z)
      → owner_of t (var_of test) ≡ Some w → (x ≡ y) ⊎ (x ≡ z) → Chain t x ws → Chain t n (w ∷ ws)
  leaf : {n : ℕ} {ss : List LeafStage} {os : List Parts} → node_of t n ≡ Some (Leaf ss os) → Chain t n (map (λ (s : LeafStage). s.at) ss)

-- any two of these are one switch
abbrev pub IsOneSwitch : List ℕ → Type 0
IsOneSwitch ws = (v w : ℕ) → Contains ws v → Contains ws w → v ≡ w

abbrev pub IsSingleOwnerFrom : Tables → ℕ → Type 0
IsSingleOwnerFrom t n = (ws : List ℕ) → Chain t n ws → IsOneSwitch ws

-- on each chain from number 0 to a leaf the state rows and the leaf's stages all stand at one switch
abbrev pub IsSingleOwner1 : Tables → Type 0
IsSingleOwner1 t = IsSingleOwnerFrom t 0

-- all arrays stand at one switch, or there are none
abbrev pub IsAtOne : List ArrayAt → Type 0
IsAtOne arrays = (w : ℕ) × All (λ (a : ArrayAt). a.at ≡ w) arrays

abbrev pub IsSingleOwner2 : Tables → Type 0
IsSingleOwner2 t = IsAtOne t.arrays

abbrev pub IsSingleOwner : Tables → Type 0
IsSingleOwner t = (t.version ≡ 1 → IsSingleOwner1 t) × (t.version ≡ 2 → IsSingleOwner2 t)
