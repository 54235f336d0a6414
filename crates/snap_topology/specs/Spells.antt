-- Which topology a text spells: its document has three keys, and what they hold. Nothing is said here of faults and their order.
use Rattle.std.specs.Prelude.{◌≡◌, ◌↔◌, ℕ, ◌≤◌, true, false, List, [], ◌∷◌, ◌++◌, length, map, codes, Some, Contains, Option, None, if◌then◌else◌, Bool, ◌+◌, ◌&&◌, ◌==◌, is_some, fold, nat_le, nat_lt, ◌^◌, decimal, min, max}
use Rattle.std.specs.List.{All, IsDistinct, flat_map, list_any, position_or_len}
use Rattle.std.specs.List.Sorted.{IsStrictlySortedBy}
use Rattle.std.specs.Str.{bytes_eq, is_utf8}
use Rattle.std.specs.Ordering.{nat_cmp}
use Rattle.std.specs.BTreeMap.{insert_entry}
use Rattle.std.specs.Str.Parse.{digits_value}
use Rattle.toml.specs.Data.{string, array, table, Items, no_items, item, Members, no_members, member, get_member}
use Rattle.toml.specs.Parse.{parse_document}
use Rattle.snap_core.specs.Names.{is_switch_name}
pub use Rattle.snap_core.specs.declared.ports.PortAt.{PortAt}
use Rattle.snap_core.specs.Ports.{link_cmp}
pub use Rattle.snap_topology.specs.declared.topology.Topology.{Topology}
pub use Rattle.snap_topology.specs.declared.topology.TheConstants.{MOST_SWITCHES, MOST_LINKS, MOST_PORTS}

abbrev pub ends : List ℕ × List ℕ → List (List ℕ)
ends link = link.0 ∷ link.1 ∷ []

abbrev pub port_name : ℕ × List ℕ → List ℕ
port_name p = p.1

abbrev pub is_switch : List (List ℕ) → List ℕ → Bool
is_switch switches name = list_any (bytes_eq name) switches

-- a switch's number is its place in the list
abbrev pub number_of : List (List ℕ) → List ℕ → ℕ
number_of switches name = position_or_len (bytes_eq name) switches

-- a link by numbers, the lesser first
abbrev pub numbered : List (List ℕ) → List ℕ × List ℕ → ℕ × ℕ
numbered switches link = let a = number_of switches link.0 in let b = number_of switches link.1 in (min a b, max a b)

abbrev pub port_at : List (List ℕ) → ℕ × List ℕ → PortAt
port_at switches p = record { port = p.0; at = number_of switches p.1 }

-- the number from 1 to 4294967295 of which the text is the decimal text
abbrev pub port_number : List ℕ → Option ℕ
port_number text = let n = digits_value 10 text in if nat_le 1 n && (nat_lt n (2 ^ 32) && bytes_eq text (decimal n)) then Some n else None

abbrev pub member_count : Members → ℕ
member_count no_members = 0
member_count (member k d rest) = member_count rest + 1

-- the keys are exactly `links`, `ports` and `switches`
abbrev pub has_keys : Members → Bool
has_keys m = member_count m == 3 && (is_some (get_member (codes "links") m)
    && (is_some (get_member (codes "ports") m) && is_some (get_member (codes "switches") m)))

-- with one more port, at its place in the order of numbers
abbrev pub put_port : List (ℕ × List ℕ) → ℕ × List ℕ → List (ℕ × List ℕ)
put_port ports p = insert_entry nat_cmp ports p.0 p.1

-- the ports by rising number
abbrev pub by_number : List (ℕ × List ℕ) → List (ℕ × List ℕ)
by_number ports = fold put_port [] ports

-- the members of the document, where the bytes are UTF-8 and TOML takes them
abbrev pub document : List ℕ → Option Members
document bytes = if is_utf8 bytes then parse_document bytes else None

-- names of switches
pub data AreNames : Items → List (List ℕ) → Type 0 where
  no_name : AreNames no_items []
  next_name : {name : List ℕ} {rest : Items} {names : List (List ℕ)} → is_switch_name name ≡ true
      → AreNames rest names → AreNames (item (string name) rest) (name ∷ names)

-- pairs of two different names of switches
pub data ArePairs : Items → List (List ℕ × List ℕ) → Type 0 where
  no_pair : ArePairs no_items []
  next_pair : {a b : List ℕ} {rest : Items} {pairs : List (List ℕ × List ℕ)}
      → is_switch_name a ≡ true → is_switch_name b ≡ true → bytes_eq a b ≡ false → ArePairs rest pairs
      → ArePairs (item (array (item (string a) (item (string b) no_items))) rest) ((a, b) ∷ pairs)

-- numbers of ports, each with the name of a switch
pub data ArePorts : Members → List (ℕ × List ℕ) → Type 0 where
  no_port : ArePorts no_members []
  next_port : {key name : List ℕ} {port : ℕ} {rest : Members} {ports : List (ℕ × List ℕ)} → port_number key ≡ Some port
      → is_switch_name name ≡ true → ArePorts rest ports → ArePorts (member key (string name) rest) ((port, name) ∷ ports)

-- what the three keys hold
pub record Holds (m : Members) (switches : List (List ℕ)) (pairs : List (List ℕ × List ℕ)) (ports : List (ℕ × List ℕ)) : Type 0 where
  pub keys : has_keys m ≡ true
  pub names : Items
  pub links : Items
  pub numbers : Members
  pub names_at : get_member (codes "switches") m ≡ Some (array names)
  pub links_at : get_member (codes "links") m ≡ Some (array links)
  pub numbers_at : get_member (codes "ports") m ≡ Some (table numbers)
  pub are_names : AreNames names switches
  pub are_pairs : ArePairs links pairs
  pub are_ports : ArePorts numbers ports

-- **The text has at most 1,048,576 bytes, and spells this topology: some switches, all different; each link once, the lesser
-- number first; and the ports by rising number.**
pub record SpellsTopology (text : List ℕ) (t : Topology) : Type 0 where
  pub short : length text ≤ 1048576
  pub toml : Members
  pub spelled : document text ≡ Some toml
  pub pairs : List (List ℕ × List ℕ)
  pub ports : List (ℕ × List ℕ)
  pub holds : Holds toml t.switches pairs ports
  pub some : 1 ≤ length t.switches
  pub different : IsDistinct bytes_eq t.switches
  pub known : All (λ name. is_switch t.switches name ≡ true) (flat_map ends pairs ++ map port_name (by_number ports))
  pub few_switches : length t.switches ≤ MOST_SWITCHES
  pub few_links : length pairs ≤ MOST_LINKS
  pub few_ports : length (by_number ports) ≤ MOST_PORTS
  pub links : (link : ℕ × ℕ) → Contains t.links link ↔ Contains (map (numbered t.switches) pairs) link
  pub links_rise : IsStrictlySortedBy link_cmp t.links
  pub at_ports : t.ports ≡ map (port_at t.switches) (by_number ports)
