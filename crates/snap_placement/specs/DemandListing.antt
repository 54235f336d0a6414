-- A listing, as what it spells, and the keys of a set of names.
use Rattle.std.specs.Prelude.{ℕ, List, map, Vec, string_bytes}
use Rattle.std.specs.declared.alloc.Global.{Global}
use Rattle.snap_topology.specs.Listing.{texts}
use Rattle.snap_placement.specs.declared.demand_listing.AllowedAt.{AllowedAt}
use Rattle.snap_placement.specs.declared.demand_listing.DemandListing.{DemandListing}
use Rattle.snap_placement.specs.DemandShape.{Spelled}

abbrev pub entry_text : AllowedAt → List ℕ × List (List ℕ)
entry_text e = (string_bytes e.name, texts e.places)

abbrev pub entry_texts : List AllowedAt → List (List ℕ × List (List ℕ))
entry_texts entries = map entry_text entries

abbrev pub vec_texts : Vec AllowedAt Global → List (List ℕ × List (List ℕ))
vec_texts v = entry_texts v.items

abbrev pub spelled_by : DemandListing → Spelled
spelled_by l = record { flows = l.flows.items; allowed = vec_texts l.allowed }

abbrev pub key_texts : List (Vec ℕ Global) → List (List ℕ)
key_texts keys = map (λ (k : Vec ℕ Global). k.items) keys
