-- The shape of a placement's document: which array is placed at which switch, by names.
use Rattle.std.specs.Prelude.{ℕ, Bool, true, ◌&&◌, List, [], Option, Some, None, if◌then◌else◌, Result, Ok, Err}
use Rattle.toml.specs.Data.{Members, no_members, member}
use Rattle.snap_core.specs.Names.{is_name}
use Rattle.snap_topology.specs.Shape.{name_in, with_first}
pub use Rattle.snap_placement.specs.declared.placement.PlaceFault.{PlaceFault}
pub use Rattle.snap_placement.specs.declared.placement.PlaceFault.TheVariants.{NotToml, Shape, NoVariable, Missing, NoSwitch, Apart, NoMemory}

-- each key is spelled like a name of a program
abbrev pub has_names : Members → Bool
has_names no_members = true
has_names (member key d rest) = is_name key && has_names rest

abbrev pub entry_of : List ℕ → Option (List ℕ) → Option (List ℕ × List ℕ)
entry_of key (Some name) = Some (key, name)
entry_of key None = None

-- the names with their switches, in the byte order of the names, where each value is a switch name
abbrev pub entries_in : Members → Option (List (List ℕ × List ℕ))
entries_in no_members = Some []
entries_in (member key d rest) = with_first (entry_of key (name_in d)) (entries_in rest)

abbrev pub entries_then : Option (List (List ℕ × List ℕ)) → Result (List (List ℕ × List ℕ)) PlaceFault
entries_then (Some entries) = Ok entries
entries_then None = Err (Shape 2)

-- the entries of a document of the right shape, or its first fault
abbrev pub entries_of : Option Members → Result (List (List ℕ × List ℕ)) PlaceFault
entries_of (Some m) = if has_names m then entries_then (entries_in m) else Err (Shape 1)
entries_of None = Err NotToml
