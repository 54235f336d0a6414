-- The shape of a demand's document: the flows and the names that it spells, or which part is out of shape.
use Rattle.std.specs.Prelude.{ℕ, ◌^◌, pos, Bool, ◌&&◌, ◌==◌, List, [], codes, Option, Some, None, is_some, if◌then◌else◌, nat_lt, Result, Ok, Err}
use Rattle.toml.specs.Data.{Data, integer, array, table, Items, no_items, item, Members, no_members, member, get_member}
use Rattle.snap_core.specs.Names.{is_name}
use Rattle.snap_topology.specs.Shape.{names_in, with_first}
use Rattle.snap_topology.specs.Spells.{member_count}
use Rattle.snap_placement.specs.declared.demand.DemandFault.{DemandFault}
use Rattle.snap_placement.specs.declared.demand.DemandFault.TheVariants.{NotToml, Shape}
use Rattle.snap_placement.specs.declared.demand.Flow.{Flow}

-- the flows as read, and the names of arrays with those of their switches, in byte order of the former
pub record Spelled : Type 0 where
  pub flows : List Flow
  pub allowed : List (List ℕ × List (List ℕ))

-- the keys are exactly `allowed` and `demand`
abbrev pub has_keys : Members → Bool
has_keys m = member_count m == 2 && (is_some (get_member (codes "allowed") m) && is_some (get_member (codes "demand") m))

-- a number from 0 to 4294967295
abbrev pub number_in : Data → Option ℕ
number_in (integer (pos n)) = if nat_lt n (2 ^ 32) then Some n else None
number_in _ = None

-- a number that isn't 0
abbrev pub port_from : Option ℕ → Option ℕ
port_from (Some n) = if n == 0 then None else Some n
port_from None = None

abbrev pub flow_of : Option ℕ → Option ℕ → Option ℕ → Option Flow
flow_of (Some from) (Some to) (Some weight) = Some (record { from = from; to = to; weight = weight })
flow_of _ _ _ = None

-- an array of two ports and a weight
abbrev pub flow_in : Data → Option Flow
flow_in (array (item a (item b (item w no_items)))) = flow_of (port_from (number_in a)) (port_from (number_in b)) (number_in w)
flow_in _ = None

-- the flows of an array of flows
abbrev pub flows_listed : Items → Option (List Flow)
flows_listed no_items = Some []
flows_listed (item d rest) = with_first (flow_in d) (flows_listed rest)

abbrev pub flows_in : Option Data → Option (List Flow)
flows_in (Some (array items)) = flows_listed items
flows_in _ = None

-- the names of an array of switch names
abbrev pub places_in : Data → Option (List (List ℕ))
places_in (array items) = names_in items
places_in _ = None

-- a name of a program with switch names
abbrev pub entry_of : List ℕ → Option (List (List ℕ)) → Option (List ℕ × List (List ℕ))
entry_of key (Some names) = if is_name key then Some (key, names) else None
entry_of key None = None

-- the entries of a table from names of a program to arrays of switch names
abbrev pub entries_listed : Members → Option (List (List ℕ × List (List ℕ)))
entries_listed no_members = Some []
entries_listed (member key d rest) = with_first (entry_of key (places_in d)) (entries_listed rest)

abbrev pub entries_in : Option Data → Option (List (List ℕ × List (List ℕ)))
entries_in (Some (table members)) = entries_listed members
entries_in _ = None

-- the parts of the document in turn: what it spells, or the first part that is out of shape
abbrev pub entries_then : List Flow → Option (List (List ℕ × List (List ℕ))) → Result Spelled DemandFault
entries_then flows (Some entries) = Ok (record { flows = flows; allowed = entries })
entries_then flows None = Err (Shape 3)

abbrev pub flows_then : Members → Option (List Flow) → Result Spelled DemandFault
flows_then m (Some flows) = entries_then flows (entries_in (get_member (codes "allowed") m))
flows_then m None = Err (Shape 2)

abbrev pub spelled : Option Members → Result Spelled DemandFault
spelled (Some m) = if has_keys m then flows_then m (flows_in (get_member (codes "demand") m)) else Err (Shape 1)
spelled None = Err NotToml
