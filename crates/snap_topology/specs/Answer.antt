-- What is answered for a text: its first fault, or its topology.
use Rattle.std.specs.Prelude.{Bool, ◌≡◌, ◌↔◌, ℕ, not, List, [], ◌∷◌, ◌++◌, length, map, find, Contains, Option, Some, None, if◌then◌else◌, nat_lt, Result, Ok, Err, IsOkAnd, IsSomeAnd}
use Rattle.std.specs.List.{flat_map}
use Rattle.std.specs.List.Sorted.{IsStrictlySortedBy}
pub use Rattle.snap_core.specs.declared.program.Which.{Which}
pub use Rattle.snap_core.specs.declared.program.Which.TheVariants.{Switches, Links, Ports}
use Rattle.snap_topology.specs.declared.topology.Topology.{Topology}
use Rattle.snap_topology.specs.declared.topology.TopoFault.{TopoFault}
use Rattle.snap_topology.specs.declared.topology.TopoFault.TheVariants.{Limit, Twice, Unknown}
use Rattle.snap_topology.specs.declared.topology.TheConstants.{MOST_SWITCHES, MOST_LINKS, MOST_PORTS}
use Rattle.snap_core.specs.Ports.{link_cmp}
use Rattle.snap_topology.specs.Spells.{document, is_switch, numbered, port_at, ends, port_name}
use Rattle.snap_topology.specs.Shape.{Spelled, spelled}

-- the first count that passes its limit
abbrev pub too_many : Spelled → Option (Which × ℕ)
too_many s = if nat_lt MOST_SWITCHES (length s.switches) then Some (Switches, length s.switches)
    else if nat_lt MOST_LINKS (length s.links) then Some (Links, length s.links)
    else if nat_lt MOST_PORTS (length s.ports) then Some (Ports, length s.ports)
    else None

-- the first of the names that stands before it, among the others or those seen
abbrev pub repeat_after : List (List ℕ) → List (List ℕ) → Option (List ℕ)
repeat_after seen [] = None
repeat_after seen (name ∷ names) = if is_switch seen name then Some name else repeat_after (seen ++ name ∷ []) names

abbrev pub first_repeat : List (List ℕ) → Option (List ℕ)
first_repeat names = repeat_after [] names

-- the names in the links as listed, then those in the ports by rising number
abbrev pub mentioned : Spelled → List (List ℕ)
mentioned s = flat_map ends s.links ++ map port_name s.ports

abbrev pub is_unknown : List (List ℕ) → List ℕ → Bool
is_unknown switches name = not (is_switch switches name)

-- each of the names is a switch
abbrev pub AreKnown : List (List ℕ) → List (List ℕ) → Type 0
AreKnown switches names = find (is_unknown switches) names ≡ None

-- the fault names the first of them that is no switch
abbrev pub TellsUnknown : List (List ℕ) → List (List ℕ) → TopoFault → Type 0
TellsUnknown switches names e = IsSomeAnd (find (is_unknown switches) names) (λ name. e ≡ Unknown name)

abbrev pub first_unknown : Spelled → Option (List ℕ)
first_unknown s = find (is_unknown s.switches) (mentioned s)

-- the topology of what a document spells: each link once, and the ports by rising number
pub record IsTopologyOf (s : Spelled) (t : Topology) : Type 0 where
  pub switches : t.switches ≡ s.switches
  pub links : (link : ℕ × ℕ) → Contains t.links link ↔ Contains (map (numbered s.switches) s.links) link
  pub links_rise : IsStrictlySortedBy link_cmp t.links
  pub ports : t.ports ≡ map (port_at s.switches) s.ports

-- what is answered once the shape is right, no limit is passed, the switches differ, and the names are known
abbrev pub KnownThen : Spelled → Option (List ℕ) → Result Topology TopoFault → Type 0
KnownThen s (Some name) r = r ≡ Err (Unknown name)
KnownThen s None r = IsOkAnd r (IsTopologyOf s)

abbrev pub DifferentThen : Spelled → Option (List ℕ) → Result Topology TopoFault → Type 0
DifferentThen s (Some name) r = r ≡ Err (Twice name)
DifferentThen s None r = KnownThen s (first_unknown s) r

abbrev pub WithinThen : Spelled → Option (Which × ℕ) → Result Topology TopoFault → Type 0
WithinThen s (Some many) r = r ≡ Err (Limit many.0 many.1)
WithinThen s None r = DifferentThen s (first_repeat s.switches) r

-- what is answered for what a document spells
abbrev pub IsAnswerFor : Spelled → Result Topology TopoFault → Type 0
IsAnswerFor s r = WithinThen s (too_many s) r

abbrev pub SpelledThen : Result Spelled TopoFault → Result Topology TopoFault → Type 0
SpelledThen (Ok s) r = WithinThen s (too_many s) r
SpelledThen (Err e) r = r ≡ Err e

-- the one answer for a text, memory aside
abbrev pub IsAnswer : List ℕ → Result Topology TopoFault → Type 0
IsAnswer text r = SpelledThen (spelled (document text)) r
