-- The faults of a listing, part by part, and the switches of its demand.
use Rattle.std.specs.Prelude.{◌≡◌, ◌≢◌, ◌<◌, ℕ, List, [], length, Option, Some, None, Result, Ok, Err, MatchResult, Vec, slice_index_or}
use Rattle.std.specs.Option.{option_or}
use Rattle.std.specs.declared.alloc.Global.{Global}
use Rattle.snap_core.specs.declared.ports.PortAt.{PortAt}
use Rattle.snap_dep.specs.Ranks.{Grouping}
use Rattle.snap_placement.specs.declared.demand.Demand.{Demand}
use Rattle.snap_placement.specs.declared.demand.DemandFault.{DemandFault}
use Rattle.snap_placement.specs.declared.demand.DemandFault.TheVariants.{NoMemory}
use Rattle.snap_placement.specs.declared.demand.Flow.{Flow}
use Rattle.snap_placement.specs.DemandAnswer.{GroupMay, Lists, TellsNowhere, no_port, no_switch, no_variable, too_many}

-- the first fault of flows and entries, where the last one is that of the switch names
abbrev pub fault_before : List PortAt → List (List ℕ) → List Flow → List (List ℕ × List (List ℕ)) → Option DemandFault → Option DemandFault
fault_before ports arrays flows entries last = option_or (too_many flows)
    (option_or (no_port ports flows) (option_or (no_variable arrays entries) last))

-- the flows and the names of arrays have no fault
pub record IsKnown (ports : List PortAt) (arrays : List (List ℕ)) (flows : List Flow) (entries : List (List ℕ × List (List ℕ))) : Type 0 where
  pub few : too_many flows ≡ None
  pub there : no_port ports flows ≡ None
  pub names : no_variable arrays entries ≡ None

-- they are known, or their first fault is told, memory aside
abbrev pub KnowsParts : {X : Type 0} → List PortAt → (arrays : List (List ℕ)) → List Flow
    → List (List ℕ × List (List ℕ)) → Result X DemandFault → Type 0
KnowsParts ports arrays flows entries r = MatchResult r (λ _. IsKnown ports arrays flows entries)
    (λ e. e ≢ NoMemory → (last : Option DemandFault) → fault_before ports arrays flows entries last ≡ Some e)

-- for each variable the switches at which its group may stand, at least one
pub record ArePlaces (g : Grouping) (arrays switches : List (List ℕ))
    (entries : List (List ℕ × List (List ℕ))) (places : List (List ℕ)) : Type 0 where
  pub count : length places ≡ length arrays
  pub each : (v : ℕ) → v < length arrays → Lists (GroupMay g arrays switches entries v) (length switches) (slice_index_or places v [])
  pub some : (v : ℕ) → v < length arrays → slice_index_or places v [] ≢ []

-- what is told where there are no such switches: the fault of the switch names, or else a variable whose group may stand nowhere
abbrev pub TellsPlaces : Grouping → List (List ℕ) → List (List ℕ)
    → List (List ℕ × List (List ℕ)) → Option DemandFault → DemandFault → Type 0
TellsPlaces g arrays switches entries (Some fault) e = fault ≡ e
TellsPlaces g arrays switches entries None e = TellsNowhere (GroupMay g arrays switches entries) (length arrays) (length switches) e

-- these switches are found, or it is told why there are none, memory aside
abbrev pub FindsPlaces : Grouping → (arrays switches : List (List ℕ))
    → List (List ℕ × List (List ℕ)) → Result (Vec (List ℕ) Global) DemandFault → Type 0
FindsPlaces g arrays switches entries r = MatchResult r
    (λ all. (no_switch switches arrays entries ≡ None) × ArePlaces g arrays switches entries all.items)
    (λ e. e ≢ NoMemory → TellsPlaces g arrays switches entries (no_switch switches arrays entries) e)

-- the demand of these flows and the switches that are found, or a fault, is answered so, memory aside
abbrev pub AnswersWith : List Flow → (Result Demand DemandFault → Type 0) → Result (Vec (List ℕ) Global) DemandFault → Type 0
AnswersWith flows P r = MatchResult r (λ all. (d : Demand) → d.flows ≡ flows → d.allowed ≡ all.items → P (Ok d))
    (λ e. e ≢ NoMemory → P (Err e))
