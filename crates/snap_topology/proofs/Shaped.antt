-- What a document of the right shape holds, in the words of `Spells`.
use Rattle.std.proofs.Common.{◌≡◌, ℕ, ◌≤◌, Bool, true, false, cond, List, [], ◌∷◌, length, codes, Option, None, Some, Result, Ok, Err, option_map, refl, sym, ap, ◌∙◌, subst, arith, if◌then◌else◌, bytes_eq}
use Rattle.toml.specs.Data.{Data, string, array, table, Items, no_items, item, Members, no_members, member, get_member}
use Rattle.snap_core.specs.Names.{is_switch_name}
use Rattle.snap_topology.specs.Spells.{AreNames, no_name, next_name, ArePairs, no_pair, next_pair, ArePorts, no_port, next_port, has_keys, by_number, port_number}
use Rattle.snap_topology.specs.Shape.{TopoFault, Shape, Spelled, spelled, name_in, with_first, names_in, switches_in, pair_of, link_in, links_listed, links_in, port_of, ports_listed, ports_in, ports_then, links_then, switches_then}

-- ---- what each part holds
name-is : (b : Bool) (x name : List ℕ) → is_switch_name x ≡ b → cond b (Some x) None ≡ Some name → (string x ≡ string name) × (is_switch_name name ≡ true)
name-is true x name is h = let same : x ≡ name = cc in (ap string same, ap is_switch_name (sym same) ∙ is)
name-is false x name is h = cc

name_in-is : (d : Data) (name : List ℕ) → name_in d ≡ Some name → (d ≡ string name) × (is_switch_name name ≡ true)
name_in-is (string x) name h = name-is (is_switch_name x) x name refl h
name_in-is _ name h = cc

-- one in front of the others
record IsFirst {X : Type 0} (o : Option X) (os : Option (List X)) (ys : List X) : Type 0 where
  first : X
  others : List X
  is_first : o ≡ Some first
  are_others : os ≡ Some others
  all : ys ≡ first ∷ others

with_first-is : {X : Type 0} (o : Option X) (os : Option (List X)) (ys : List X) → with_first o os ≡ Some ys → IsFirst o os ys
with_first-is (Some x) (Some xs) ys h = let same : x ∷ xs ≡ ys = cc in record { first = x; others = xs; is_first = refl; are_others = refl; all = sym same }
with_first-is (Some x) None ys h = cc
with_first-is None os ys h = cc

names-are : (items : Items) (names : List (List ℕ)) → names_in items ≡ Some names → AreNames items names
names-are no_items names h = let same : [] ≡ names = cc in subst (AreNames no_items) same no_name
names-are (item d rest) names h =
    let w : IsFirst (name_in d) (names_in rest) names = with_first-is (name_in d) (names_in rest) names h in
    let n = name_in-is d w.first w.is_first in
    subst (AreNames (item d rest)) (sym w.all) (subst (λ x. AreNames (item x rest) (w.first ∷ w.others)) (sym n.0) (next_name n.1 (names-are rest w.others w.are_others)))

record IsPair (o p : Option (List ℕ)) (pair : List ℕ × List ℕ) : Type 0 where
  first : List ℕ
  second : List ℕ
  is_first : o ≡ Some first
  is_second : p ≡ Some second
  apart : bytes_eq first second ≡ false
  both : pair ≡ (first, second)

pair-is : (c : Bool) (a b : List ℕ) (pair : List ℕ × List ℕ) → bytes_eq a b ≡ c → cond c None (Some (a, b)) ≡ Some pair → IsPair (Some a) (Some b) pair
pair-is true a b pair is h = cc
pair-is false a b pair is h = let same : (a, b) ≡ pair = cc in record { first = a; second = b; is_first = refl; is_second = refl; apart = is; both = sym same }

pair_of-is : (o p : Option (List ℕ)) (pair : List ℕ × List ℕ) → pair_of o p ≡ Some pair → IsPair o p pair
pair_of-is (Some a) (Some b) pair h = pair-is (bytes_eq a b) a b pair refl h
pair_of-is (Some a) None pair h = cc
pair_of-is None p pair h = cc

-- a link of an array, in front of others
LinkFits : Data → List ℕ × List ℕ → Type 0
LinkFits d pair = (rest : Items) (pairs : List (List ℕ × List ℕ)) → ArePairs rest pairs → ArePairs (item d rest) (pair ∷ pairs)

two-fit : (a b : Data) (pair : List ℕ × List ℕ) → pair_of (name_in a) (name_in b) ≡ Some pair → LinkFits (array (item a (item b no_items))) pair
unfolding LinkFits
two-fit a b pair h rest pairs k =
    let w : IsPair (name_in a) (name_in b) pair = pair_of-is (name_in a) (name_in b) pair h in
    let m = name_in-is a w.first w.is_first in
    let n = name_in-is b w.second w.is_second in
    subst (λ p. ArePairs (item (array (item a (item b no_items))) rest) (p ∷ pairs)) (sym w.both)
    (subst (λ x. ArePairs (item (array (item x (item b no_items))) rest) ((w.first, w.second) ∷ pairs)) (sym m.0)
    (subst (λ y. ArePairs (item (array (item (string w.first) (item y no_items))) rest) ((w.first, w.second) ∷ pairs)) (sym n.0) (next_pair m.1 n.1 w.apart k)))

link_in-fits : (d : Data) (pair : List ℕ × List ℕ) → link_in d ≡ Some pair → LinkFits d pair
link_in-fits (array (item a (item b no_items))) pair h = two-fit a b pair h
link_in-fits _ pair h = cc

pairs-are : (items : Items) (pairs : List (List ℕ × List ℕ)) → links_listed items ≡ Some pairs → ArePairs items pairs
unfolding LinkFits
pairs-are no_items pairs h = let same : [] ≡ pairs = cc in subst (ArePairs no_items) same no_pair
pairs-are (item d rest) pairs h =
    let w : IsFirst (link_in d) (links_listed rest) pairs = with_first-is (link_in d) (links_listed rest) pairs h in
    subst (ArePairs (item d rest)) (sym w.all) (link_in-fits d w.first w.is_first rest w.others (pairs-are rest w.others w.are_others))

record IsPort (o : Option ℕ) (p : Option (List ℕ)) (port : ℕ × List ℕ) : Type 0 where
  number : ℕ
  name : List ℕ
  is_number : o ≡ Some number
  is_name : p ≡ Some name
  both : port ≡ (number, name)

port_of-is : (o : Option ℕ) (p : Option (List ℕ)) (port : ℕ × List ℕ) → port_of o p ≡ Some port → IsPort o p port
port_of-is (Some n) (Some name) port h = let same : (n, name) ≡ port = cc in record { number = n; name = name; is_number = refl; is_name = refl; both = sym same }
port_of-is (Some n) None port h = cc
port_of-is None p port h = cc

ports-are : (members : Members) (ports : List (ℕ × List ℕ)) → ports_listed members ≡ Some ports → ArePorts members ports
ports-are no_members ports h = let same : [] ≡ ports = cc in subst (ArePorts no_members) same no_port
ports-are (member key d rest) ports h =
    let w : IsFirst (port_of (port_number key) (name_in d)) (ports_listed rest) ports = with_first-is (port_of (port_number key) (name_in d)) (ports_listed rest) ports h in
    let p : IsPort (port_number key) (name_in d) w.first = port_of-is (port_number key) (name_in d) w.first w.is_first in
    let n = name_in-is d p.name p.is_name in
    subst (ArePorts (member key d rest)) (sym w.all)
    (subst (λ x. ArePorts (member key d rest) (x ∷ w.others)) (sym p.both)
    (subst (λ x. ArePorts (member key x rest) ((p.number, p.name) ∷ w.others)) (sym n.0) (next_port p.is_number n.1 (ports-are rest w.others w.are_others))))

-- ---- the three keys
pub record IsSwitches (o : Option Data) (names : List (List ℕ)) : Type 0 where
  pub items : Items
  pub at : o ≡ Some (array items)
  pub are : AreNames items names
  pub some : 1 ≤ length names

names-some : (d : Data) (rest : Items) (names : List (List ℕ)) → AreNames (item d rest) names → 1 ≤ length names
names-some _ rest _ (next_name h k) = omega arith

pub switches_in-is : (o : Option Data) (names : List (List ℕ)) → switches_in o ≡ Some names → IsSwitches o names
switches_in-is (Some (array (item d rest))) names h = let are = names-are (item d rest) names h in record { items = item d rest; at = refl; are = are; some = names-some d rest names are }
switches_in-is _ names h = cc

pub links_in-is : (o : Option Data) (pairs : List (List ℕ × List ℕ)) → links_in o ≡ Some pairs → (items : Items) × (o ≡ Some (array items)) × ArePairs items pairs
links_in-is (Some (array items)) pairs h = (items, refl, pairs-are items pairs h)
links_in-is _ pairs h = cc

-- ports, before they stand by their numbers
pub record IsPorts (o : Option Data) (sorted : List (ℕ × List ℕ)) : Type 0 where
  pub members : Members
  pub ports : List (ℕ × List ℕ)
  pub at : o ≡ Some (table members)
  pub are : ArePorts members ports
  pub by : sorted ≡ by_number ports

ports_in-table : (entries : Members) (o : Option (List (ℕ × List ℕ))) (sorted : List (ℕ × List ℕ)) → ports_listed entries ≡ o → option_map by_number o ≡ Some sorted → IsPorts (Some (table entries)) sorted
ports_in-table entries (Some ports) sorted is h = let same : by_number ports ≡ sorted = cc in record { members = entries; ports = ports; at = refl; are = ports-are entries ports is; by = sym same }
ports_in-table entries None sorted is h = cc

pub ports_in-is : (o : Option Data) (sorted : List (ℕ × List ℕ)) → ports_in o ≡ Some sorted → IsPorts o sorted
ports_in-is (Some (table entries)) sorted h = ports_in-table entries (ports_listed entries) sorted refl h
ports_in-is _ sorted h = cc

-- what a document spells, where it is in shape
pub record InShape (o : Option Members) (s : Spelled) : Type 0 where
  pub toml : Members
  pub at : o ≡ Some toml
  pub keys : has_keys toml ≡ true
  pub switches : switches_in (get_member (codes "switches") toml) ≡ Some s.switches
  pub links : links_in (get_member (codes "links") toml) ≡ Some s.links
  pub ports : ports_in (get_member (codes "ports") toml) ≡ Some s.ports

abbrev ok : Spelled → Result Spelled TopoFault
ok s = Ok s

same-spelled : {x y : Spelled} → ok x ≡ ok y → x ≡ y
same-spelled e = cc

shape-of : (m : Members) (b : Bool) (x : Option (List (List ℕ))) (y : Option (List (List ℕ × List ℕ))) (z : Option (List (ℕ × List ℕ))) (s : Spelled)
    → has_keys m ≡ b → switches_in (get_member (codes "switches") m) ≡ x → links_in (get_member (codes "links") m) ≡ y → ports_in (get_member (codes "ports") m) ≡ z → spelled (Some m) ≡ Ok s → InShape (Some m) s
shape-of m true (Some x) (Some y) (Some z) s kb kx ky kz h =
    let here : spelled (Some m) ≡ ok (record { switches = x; links = y; ports = z }) =
    ap (λ b. if b then switches_then m (switches_in (get_member (codes "switches") m)) else Err (Shape 1)) kb ∙ ap (switches_then m) kx ∙ ap (links_then m x) ky ∙ ap (ports_then x y) kz in
    let same : record { switches = x; links = y; ports = z } ≡ s = same-spelled (sym here ∙ h) in
    subst (InShape (Some m)) same (record { toml = m; at = refl; keys = kb; switches = kx; links = ky; ports = kz })
shape-of m true (Some x) (Some y) None s kb kx ky kz h =
    let no : Err (Shape 4) ≡ ok s = sym (ap (λ b. if b then switches_then m (switches_in (get_member (codes "switches") m)) else Err (Shape 1)) kb ∙ ap (switches_then m) kx ∙ ap (links_then m x) ky ∙ ap (ports_then x y) kz) ∙ h in cc
shape-of m true (Some x) None z s kb kx ky kz h = let no : Err (Shape 3) ≡ ok s = sym (ap (λ b. if b then switches_then m (switches_in (get_member (codes "switches") m)) else Err (Shape 1)) kb ∙ ap (switches_then m) kx ∙ ap (links_then m x) ky) ∙ h in cc
shape-of m true None y z s kb kx ky kz h = let no : Err (Shape 2) ≡ ok s = sym (ap (λ b. if b then switches_then m (switches_in (get_member (codes "switches") m)) else Err (Shape 1)) kb ∙ ap (switches_then m) kx) ∙ h in cc
shape-of m false x y z s kb kx ky kz h = let no : Err (Shape 1) ≡ ok s = sym (ap (λ b. if b then switches_then m (switches_in (get_member (codes "switches") m)) else Err (Shape 1)) kb) ∙ h in cc

pub in-shape : (o : Option Members) (s : Spelled) → spelled o ≡ Ok s → InShape o s
in-shape (Some m) s h = shape-of m (has_keys m) (switches_in (get_member (codes "switches") m)) (links_in (get_member (codes "links") m)) (ports_in (get_member (codes "ports") m)) s refl refl refl refl h
in-shape None s h = cc
