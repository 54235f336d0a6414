-- A listing, as what it spells.
use Rattle.std.specs.Prelude.{ℕ, List, map, String, Vec, string_bytes}
use Rattle.std.specs.Borrow.{Bor}
use Rattle.std.specs.BTreeMap.{BTreeMap}
use Rattle.std.specs.HashSet.{HashSet}
use Rattle.std.specs.declared.alloc.Global.{Global}
use Rattle.snap_core.specs.declared.ports.PortAt.{PortAt}
use Rattle.snap_topology.specs.declared.listing.TopologyListing.{TopologyListing}
use Rattle.snap_topology.specs.declared.topology.Topology.{Topology}
use Rattle.snap_topology.specs.Shape.{Spelled}

abbrev pub string_texts : List (String Global) → List (List ℕ)
string_texts names = map string_bytes names

abbrev pub texts : Vec (String Global) Global → List (List ℕ)
texts v = string_texts v.items

abbrev pub lent_texts : List (Bor (List ℕ)) → List (List ℕ)
lent_texts names = map (λ (n : Bor (List ℕ)). n.now) names

-- the names of a set, by number
abbrev pub key_texts : {S : Type 0} → HashSet (Bor (List ℕ)) S → List (List ℕ)
key_texts numbers = lent_texts numbers.keys

abbrev pub pair_text : Bor (List ℕ) × Bor (List ℕ) → List ℕ × List ℕ
pair_text p = (p.0.now, p.1.now)

abbrev pub pair_texts : Vec (Bor (List ℕ) × Bor (List ℕ)) Global → List (List ℕ × List ℕ)
pair_texts v = map pair_text v.items

abbrev pub port_text : ℕ × Bor (List ℕ) → ℕ × List ℕ
port_text p = (p.0, p.1.now)

abbrev pub port_texts : BTreeMap ℕ (Bor (List ℕ)) → List (ℕ × List ℕ)
port_texts m = map port_text m.entries

abbrev pub spelled_by : TopologyListing → Spelled
spelled_by l = record { switches = texts l.switches; links = pair_texts l.links; ports = port_texts l.ports }

-- the switches of a listing with links and ports
abbrev pub linked : TopologyListing → List (ℕ × ℕ) × List PortAt → Topology
linked l borders = record { switches = texts l.switches; links = borders.0; ports = borders.1 }
