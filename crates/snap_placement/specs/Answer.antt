-- What is answered for the text of a placement: its first fault, or the owners.
use Rattle.std.specs.Prelude.{◌≡◌, ◌≢◌, ◌<◌, ℕ, Bool, true, false, not, List, All, length, map, find, is_none, Option, Some, None, Result, Ok, Err, MatchOption, MatchResult, Vec}
use Rattle.std.specs.List.{list_any, position_from}
use Rattle.std.specs.Map.{lookup}
use Rattle.std.specs.Str.{bytes_eq}
use Rattle.std.specs.declared.alloc.Global.{Global}
use Rattle.snap_core.specs.declared.program.Program.{Program}
use Rattle.snap_dep.specs.Dependencies.{Tied}
use Rattle.snap_topology.specs.declared.topology.Topology.{Topology}
use Rattle.snap_topology.specs.Spells.{document, is_switch, number_of}
use Rattle.snap_placement.specs.declared.placement.PlaceFault.{PlaceFault}
use Rattle.snap_placement.specs.declared.placement.PlaceFault.TheVariants.{NoVariable, Missing, NoSwitch, NoMemory}
use Rattle.snap_placement.specs.Shape.{entries_of}
use Rattle.snap_placement.specs.Together.{IsTogether, TellsApart}

-- the switch name at which a variable is placed
abbrev pub place_of : List (List ℕ × List ℕ) → List ℕ → Option (List ℕ)
place_of entries name = lookup (bytes_eq name) entries

abbrev pub is_unknown : List (List ℕ) → List ℕ × List ℕ → Bool
is_unknown arrays entry = not (list_any (bytes_eq entry.0) arrays)

abbrev pub is_at_switch : List (List ℕ) → Option (List ℕ) → Bool
is_at_switch switches (Some place) = is_switch switches place
is_at_switch switches None = false

abbrev pub owner_at : List (List ℕ) → Option (List ℕ) → ℕ
owner_at switches (Some place) = number_of switches place
owner_at switches None = 0

-- the number of the switch at which something is placed, if it is one
abbrev pub IsOwner : List (List ℕ) → Option (List ℕ) → Option ℕ → Type 0
IsOwner switches place owner = MatchOption owner (is_at_switch switches place ≡ false)
    (λ n. (is_at_switch switches place ≡ true) × (n ≡ owner_at switches place))

-- the first placed name that is no variable
abbrev pub no_variable : List (List ℕ) → List (List ℕ × List ℕ) → Option (List ℕ × List ℕ)
no_variable arrays entries = find (is_unknown arrays) entries

-- the first variable without a place
abbrev pub missing : List (List ℕ) → List (List ℕ × List ℕ) → Option ℕ
missing arrays entries = position_from (λ name. is_none (place_of entries name)) 0 arrays

-- the first variable whose place is no switch
abbrev pub no_switch : List (List ℕ) → List (List ℕ) → List (List ℕ × List ℕ) → Option ℕ
no_switch arrays switches entries = position_from (λ name. not (is_at_switch switches (place_of entries name))) 0 arrays

-- each variable's switch
abbrev pub owners : List (List ℕ) → List (List ℕ) → List (List ℕ × List ℕ) → List ℕ
owners arrays switches entries = map (λ name. owner_at switches (place_of entries name)) arrays

-- what is answered once the shape is right, the names are variables, each has a place, and the places are switches
abbrev pub OwnersThen : (ℕ → ℕ → Type 0) → List ℕ → Result (List ℕ) PlaceFault → Type 0
OwnersThen tied owned r = MatchResult r (λ p. (p ≡ owned) × IsTogether tied owned) (TellsApart tied owned)

abbrev pub SwitchThen : (ℕ → ℕ → Type 0) → List ℕ → Option ℕ → Result (List ℕ) PlaceFault → Type 0
SwitchThen tied owned (Some var) r = r ≡ Err (NoSwitch var)
SwitchThen tied owned None r = OwnersThen tied owned r

abbrev pub MissingThen : (ℕ → ℕ → Type 0) → List (List ℕ) → List (List ℕ)
    → List (List ℕ × List ℕ) → Option ℕ → Result (List ℕ) PlaceFault → Type 0
MissingThen tied arrays switches entries (Some var) r = r ≡ Err (Missing var)
MissingThen tied arrays switches entries None r = SwitchThen tied (owners arrays switches entries) (no_switch arrays switches entries) r

abbrev pub VariableThen : (ℕ → ℕ → Type 0) → List (List ℕ) → List (List ℕ)
    → List (List ℕ × List ℕ) → Option (List ℕ × List ℕ) → Result (List ℕ) PlaceFault → Type 0
VariableThen tied arrays switches entries (Some entry) r = r ≡ Err (NoVariable entry.0)
VariableThen tied arrays switches entries None r = MissingThen tied arrays switches entries (missing arrays entries) r

-- what is answered for the entries of a document
abbrev pub IsAnswerFor : (ℕ → ℕ → Type 0) → List (List ℕ) → List (List ℕ) → List (List ℕ × List ℕ) → Result (List ℕ) PlaceFault → Type 0
IsAnswerFor tied arrays switches entries r = VariableThen tied arrays switches entries (no_variable arrays entries) r

-- the owners or a fault are answered so, memory aside
abbrev pub Answers : (Result (List ℕ) PlaceFault → Type 0) → Result (Vec ℕ Global) PlaceFault → Type 0
Answers P r = MatchResult r (λ owned. P (Ok owned.items)) (λ e. e ≢ NoMemory → P (Err e))

abbrev pub ShapeThen : (ℕ → ℕ → Type 0) → List (List ℕ) → List (List ℕ)
    → Result (List (List ℕ × List ℕ)) PlaceFault → Result (List ℕ) PlaceFault → Type 0
ShapeThen tied arrays switches (Ok entries) r = IsAnswerFor tied arrays switches entries r
ShapeThen tied arrays switches (Err e) r = r ≡ Err e

-- the one answer for a text, memory aside
abbrev pub IsAnswer : Program → Topology → List ℕ → Result (List ℕ) PlaceFault → Type 0
IsAnswer program topology text r = ShapeThen (Tied program.body) program.arrays topology.switches (entries_of (document text)) r

-- a switch for each variable, tied ones together
pub record GivesSwitches (program : Program) (topology : Topology) (owned : List ℕ) : Type 0 where
  pub count : length owned ≡ length program.arrays
  pub below : All (λ at. at < length topology.switches) owned
  pub together : IsTogether (Tied program.body) owned
