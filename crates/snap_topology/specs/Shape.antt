-- The shape of a topology's document: the names that it spells, or which part is out of shape.
use Rattle.std.specs.Prelude.{ℕ, List, [], ◌∷◌, codes, Option, Some, None, if◌then◌else◌, option_map, Result, Ok, Err}
use Rattle.std.specs.Str.{bytes_eq}
use Rattle.toml.specs.Data.{Data, string, array, table, Items, no_items, item, Members, no_members, member, get_member}
pub use Rattle.snap_topology.specs.declared.topology.TopoFault.{TopoFault}
pub use Rattle.snap_topology.specs.declared.topology.TopoFault.TheVariants.{NotToml, Shape, Limit, Twice, Unknown, NoMemory}
use Rattle.snap_core.specs.Names.{is_switch_name}
use Rattle.snap_topology.specs.Spells.{by_number, has_keys, port_number}

-- the names of the switches, the links as listed, and the ports by rising number
pub record Spelled : Type 0 where
  pub switches : List (List ℕ)
  pub links : List (List ℕ × List ℕ)
  pub ports : List (ℕ × List ℕ)

-- a text that is a switch name
abbrev pub name_in : Data → Option (List ℕ)
name_in (string name) = if is_switch_name name then Some name else None
name_in _ = None

-- one in front of the others, where all are there
abbrev pub with_first : {X : Type 0} → Option X → Option (List X) → Option (List X)
with_first (Some x) (Some xs) = Some (x ∷ xs)
with_first _ _ = None

-- the names of an array of switch names
abbrev pub names_in : Items → Option (List (List ℕ))
names_in no_items = Some []
names_in (item d rest) = with_first (name_in d) (names_in rest)

-- the names of a non-empty array of switch names
abbrev pub switches_in : Option Data → Option (List (List ℕ))
switches_in (Some (array (item d rest))) = names_in (item d rest)
switches_in _ = None

abbrev pub pair_of : Option (List ℕ) → Option (List ℕ) → Option (List ℕ × List ℕ)
pair_of (Some a) (Some b) = if bytes_eq a b then None else Some (a, b)
pair_of _ _ = None

-- an array of two different switch names
abbrev pub link_in : Data → Option (List ℕ × List ℕ)
link_in (array (item a (item b no_items))) = pair_of (name_in a) (name_in b)
link_in _ = None

-- the links of an array of links
abbrev pub links_listed : Items → Option (List (List ℕ × List ℕ))
links_listed no_items = Some []
links_listed (item d rest) = with_first (link_in d) (links_listed rest)

abbrev pub links_in : Option Data → Option (List (List ℕ × List ℕ))
links_in (Some (array items)) = links_listed items
links_in _ = None

abbrev pub port_of : Option ℕ → Option (List ℕ) → Option (ℕ × List ℕ)
port_of (Some port) (Some name) = Some (port, name)
port_of _ _ = None

-- the ports of a table from numbers of ports to switch names
abbrev pub ports_listed : Members → Option (List (ℕ × List ℕ))
ports_listed no_members = Some []
ports_listed (member key d rest) = with_first (port_of (port_number key) (name_in d)) (ports_listed rest)

abbrev pub ports_in : Option Data → Option (List (ℕ × List ℕ))
ports_in (Some (table members)) = option_map by_number (ports_listed members)
ports_in _ = None

-- the parts of the document in turn: what it spells, or the first part that is out of shape
abbrev pub ports_then : List (List ℕ) → List (List ℕ × List ℕ) → Option (List (ℕ × List ℕ)) → Result Spelled TopoFault
ports_then switches links (Some ports) = Ok (record { switches = switches; links = links; ports = ports })
ports_then switches links None = Err (Shape 4)

abbrev pub links_then : Members → List (List ℕ) → Option (List (List ℕ × List ℕ)) → Result Spelled TopoFault
links_then m switches (Some links) = ports_then switches links (ports_in (get_member (codes "ports") m))
links_then m switches None = Err (Shape 3)

abbrev pub switches_then : Members → Option (List (List ℕ)) → Result Spelled TopoFault
switches_then m (Some switches) = links_then m switches (links_in (get_member (codes "links") m))
switches_then m None = Err (Shape 2)

abbrev pub spelled : Option Members → Result Spelled TopoFault
spelled (Some m) = if has_keys m then switches_then m (switches_in (get_member (codes "switches") m)) else Err (Shape 1)
spelled None = Err NotToml
