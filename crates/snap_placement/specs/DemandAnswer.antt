-- What is answered for the text of a demand: its first fault, or the demand.
use Rattle.std.specs.Prelude.{◌≡◌, ◌≢◌, ◌<◌, ◌↔◌, ◌==◌, ℕ, Bool, true, false, List, [], ◌∷◌, All, Contains, length, find, Option, Some, None, is_none, option_map, unwrap_or, if◌then◌else◌, nat_lt, Result, Ok, Err, MatchOption, MatchResult, slice_index_or}
use Rattle.std.specs.List.{flat_map, list_any}
use Rattle.std.specs.List.Sorted.{IsStrictlySortedBy}
use Rattle.std.specs.Map.{keys_of, lookup}
use Rattle.std.specs.Option.{option_or}
use Rattle.std.specs.Ordering.{nat_cmp}
use Rattle.std.specs.Str.{bytes_eq}
use Rattle.std.specs.Cmp.Lexicographic.{slice_cmp}
use Rattle.std.specs.declared.cmp.Ordering.TheVariants.{Greater}
use Rattle.snap_core.specs.declared.ports.PortAt.{PortAt}
use Rattle.snap_core.specs.declared.program.Program.{Program}
use Rattle.snap_core.specs.declared.program.Which.TheVariants.{Demands}
use Rattle.snap_core.specs.Ports.{port_in}
use Rattle.snap_dep.specs.Ranks.{Grouping, rank_of}
use Rattle.snap_topology.specs.Answer.{AreKnown, is_unknown}
use Rattle.snap_topology.specs.declared.topology.Topology.{Topology}
use Rattle.snap_topology.specs.Spells.{document, is_switch, number_of}
use Rattle.snap_placement.specs.declared.demand.Demand.{Demand}
use Rattle.snap_placement.specs.declared.demand.DemandFault.{DemandFault}
use Rattle.snap_placement.specs.declared.demand.DemandFault.TheVariants.{Limit, NoPort, NoVariable, NoSwitch, Nowhere, NoMemory}
use Rattle.snap_placement.specs.declared.demand.Flow.{Flow}
use Rattle.snap_placement.specs.declared.demand.TheConstants.{MOST_DEMANDS}
use Rattle.snap_placement.specs.Placements.{places_of}
use Rattle.snap_placement.specs.DemandShape.{Spelled, spelled}

-- more flows than may be
abbrev pub too_many : List Flow → Option DemandFault
too_many flows = if nat_lt MOST_DEMANDS (length flows) then Some (Limit Demands (length flows)) else None

abbrev pub ends : Flow → List ℕ
ends f = f.from ∷ f.to ∷ []

-- the first port, as read, that isn't there
abbrev pub no_port : List PortAt → List Flow → Option DemandFault
no_port ports flows = option_map (λ port. NoPort port) (find (λ port. is_none (port_in ports port)) (flat_map ends flows))

-- the first name, in the order of the entries, that is no array
abbrev pub no_variable : List (List ℕ) → List (List ℕ × List (List ℕ)) → Option DemandFault
no_variable arrays entries = option_map (λ name. NoVariable name) (find (is_unknown arrays) (keys_of entries))

-- the switch names of an array's entry
abbrev pub entry_for : List (List ℕ × List (List ℕ)) → List ℕ → Option (List (List ℕ))
entry_for entries name = lookup (bytes_eq name) entries

-- the same, none without an entry
abbrev pub names_for : List (List ℕ × List (List ℕ)) → List ℕ → List (List ℕ)
names_for entries name = unwrap_or (entry_for entries name) []

-- all switch names, by variable and then as read
abbrev pub named : List (List ℕ) → List (List ℕ × List (List ℕ)) → List (List ℕ)
named arrays entries = flat_map (λ name. unwrap_or (entry_for entries name) []) arrays

-- the first of them that is no switch
abbrev pub no_switch : List (List ℕ) → List (List ℕ) → List (List ℕ × List (List ℕ)) → Option DemandFault
no_switch switches arrays entries = option_map (λ name. NoSwitch name) (find (is_unknown switches) (named arrays entries))

-- the number of a name among those of switches, if it is there
abbrev pub IsNumber : (switches : List (List ℕ)) → (name : List ℕ) → Option ℕ → Type 0
IsNumber switches name number = MatchOption number (is_switch switches name ≡ false)
    (λ n. (n < length switches) × (is_switch switches name ≡ true) × (n ≡ number_of switches name))

-- names are all those of switches, or the first that is none is told, memory aside
abbrev pub KnowsAll : {X : Type 0} → (switches names : List (List ℕ)) → Result X DemandFault → Type 0
KnowsAll switches names r = MatchResult r (λ _. AreKnown switches names)
    (λ e. e ≢ NoMemory → option_map (λ name. NoSwitch name) (find (is_unknown switches) names) ≡ Some e)

-- this fault is told where it is one, memory aside
abbrev pub Tells : {X : Type 0} → Option DemandFault → Result X DemandFault → Type 0
Tells fault r = MatchResult r (λ _. fault ≡ None) (λ e. e ≢ NoMemory → fault ≡ Some e)

-- the first of these faults
abbrev pub first_fault : List PortAt → List (List ℕ) → List (List ℕ) → Spelled → Option DemandFault
first_fault ports switches arrays s = option_or (too_many s.flows)
    (option_or (no_port ports s.flows) (option_or (no_variable arrays s.allowed) (no_switch switches arrays s.allowed)))

-- an array may stand at a switch that its entry names, and anywhere without an entry
abbrev pub may_by : List (List ℕ) → Option (List (List ℕ)) → ℕ → Bool
may_by switches None at = true
may_by switches (Some names) at = list_any (λ name. number_of switches name == at) names

abbrev pub may : List (List ℕ) → List (List ℕ × List (List ℕ)) → List ℕ → ℕ → Bool
may switches entries name at = may_by switches (entry_for entries name) at

-- so may each array of the variable's group
abbrev pub GroupMay : Grouping → List (List ℕ) → List (List ℕ) → List (List ℕ × List (List ℕ)) → ℕ → ℕ → Type 0
GroupMay g arrays switches entries v at = (u : ℕ) → u < length arrays
    → rank_of g u ≡ rank_of g v → may switches entries (slice_index_or arrays u []) at ≡ true

-- the numbers below n with a property, rising
pub record Lists (P : ℕ → Type 0) (n : ℕ) (numbers : List ℕ) : Type 0 where
  pub rise : IsStrictlySortedBy nat_cmp numbers
  pub each : (at : ℕ) → Contains numbers at ↔ ((at < n) × P at)

-- the demand of what a document spells: its flows, and for each variable the switches at which its group may stand, at least one
pub record IsDemandOf (g : Grouping) (arrays switches : List (List ℕ)) (s : Spelled) (demand : Demand) : Type 0 where
  pub flows : demand.flows ≡ s.flows
  pub count : length demand.allowed ≡ length arrays
  pub places : (v : ℕ) → v < length arrays → Lists (GroupMay g arrays switches s.allowed v) (length switches) (places_of demand.allowed v)
  pub some : (v : ℕ) → v < length arrays → places_of demand.allowed v ≢ []

-- v is the first of n variables that may stand at none of count switches
pub record IsFirstNowhere (P : ℕ → ℕ → Type 0) (n count v : ℕ) : Type 0 where
  pub below : v < n
  pub nowhere : (at : ℕ) → at < count → ¬ (P v at)
  pub first : (u : ℕ) → u < v → (at : ℕ) × (at < count) × P u at

abbrev pub TellsNowhere : (ℕ → ℕ → Type 0) → ℕ → ℕ → DemandFault → Type 0
TellsNowhere P n count (Nowhere v) = IsFirstNowhere P n count v
TellsNowhere P n count _ = ⊥

-- what is answered once the shape is right
abbrev pub PlacesThen : Grouping → List (List ℕ) → List (List ℕ) → Spelled → Option DemandFault → Result Demand DemandFault → Type 0
PlacesThen g arrays switches s (Some e) r = r ≡ Err e
PlacesThen g arrays switches s None r = MatchResult r (IsDemandOf g arrays switches s)
    (TellsNowhere (GroupMay g arrays switches s.allowed) (length arrays) (length switches))

-- what is answered for what a document spells
abbrev pub IsAnswerFor : Grouping → List PortAt → List (List ℕ) → List (List ℕ) → Spelled → Result Demand DemandFault → Type 0
IsAnswerFor g ports arrays switches s r = PlacesThen g arrays switches s (first_fault ports switches arrays s) r

-- the demand or a fault is answered so, memory aside
abbrev pub Answers : (Result Demand DemandFault → Type 0) → Result Demand DemandFault → Type 0
Answers P r = MatchResult r (λ d. P (Ok d)) (λ e. e ≢ NoMemory → P (Err e))

abbrev pub SpelledThen : Program → Grouping → Topology → Result Spelled DemandFault → Result Demand DemandFault → Type 0
SpelledThen program g topology (Ok s) r = PlacesThen g program.arrays topology.switches s
    (first_fault topology.ports topology.switches program.arrays s) r
SpelledThen program g topology (Err e) r = r ≡ Err e

-- the one answer for a text, memory aside
abbrev pub IsAnswer : Program → Grouping → Topology → List ℕ → Result Demand DemandFault → Type 0
IsAnswer program g topology text r = SpelledThen program g topology (spelled (document text)) r

-- no unknown name is before the one that is told
abbrev pub TellsLeastOf : List (List ℕ) → List (List ℕ × List (List ℕ)) → DemandFault → Type 0
TellsLeastOf arrays entries (NoVariable name) = All
    (λ key. is_unknown arrays key ≡ true → slice_cmp nat_cmp name key ≢ Greater) (keys_of entries)
TellsLeastOf arrays entries _ = Unit {0}

-- a name that is told as unknown is the least such name of the text
abbrev pub TellsLeast : List (List ℕ) → List ℕ → DemandFault → Type 0
TellsLeast arrays text e = (s : Spelled) → spelled (document text) ≡ Ok s → TellsLeastOf arrays s.allowed e
