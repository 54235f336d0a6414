-- What a listing of the right shape and known names is like, and that its topology is in form.
use Rattle.std.proofs.Common.{append_assoc, codes, nat_lt, MatchResult, IfOk, ◌≡◌, ◌∙◌, ℕ, ◌+◌, ◌<◌, ◌≤◌, Bool, true, false, not, cond, List, [], ◌∷◌, ◌++◌, length, map, find, Option, Some, None, Result, Ok, Err, IsTrue, refl, sym, ap, subst, arith, min, max, All, Contains, flat_map, nat_cmp, bytes_eq, get_or}
use Rattle.std.specs.List.{IsDistinct}
use Rattle.std.specs.List.Sorted.{IsStrictlySortedBy}
use Rattle.std.specs.Map.{keys_of}
use Rattle.std.proofs.lemmas.Bool.{and_parts, false≢true, leb-true, ltb-false}
use Rattle.std.proofs.lemmas.Cmp.{nat_list_eq_equiv}
use Rattle.std.proofs.lemmas.Slice.Eq.{bytes_eq-Decides}
use Rattle.std.proofs.lemmas.List.{append-nil, length-map}
use Rattle.std.proofs.lemmas.Map.Keys.{IsDistinct-push}
use Rattle.toml.specs.Data.{Items, Members, get_member}
use Rattle.snap_topology.specs.Shape.{TopoFault, Spelled, spelled}
use Rattle.std.specs.Str.Parse.{digits_value}
use Rattle.snap_topology.specs.Answer.{Which, first_repeat, repeat_after, is_unknown, KnownThen, DifferentThen, WithinThen, IsTopologyOf, first_unknown, too_many, Switches, Links, Ports}
use Rattle.snap_topology.specs.Spells.{AreNames, no_name, next_name, ArePairs, no_pair, next_pair, ArePorts, no_port, next_port, Topology, port_number, is_switch, number_of, numbered, port_at, ends, port_name, MOST_SWITCHES, MOST_LINKS, MOST_PORTS, PortAt}
use Rattle.snap_core.specs.Names.{is_switch_name}
use Rattle.snap_topology.specs.Form.{IsWellFormed, IsLink, IsPort}
use Rattle.std.specs.Option.{option_or}
use Rattle.std.proofs.lemmas.List.Folds.{find-append}
use Rattle.std.proofs.lemmas.List.Elements.{All-nil, All-cons, All-head, All-tail, All-weaker, All-contains, All-contains_itself, All-map}
use Rattle.snap_topology.proofs.Ports.{by_number-rise, by_number-keys}
use Rattle.snap_topology.proofs.Shaped.{IsSwitches, IsPorts, InShape, switches_in-is, links_in-is, ports_in-is, in-shape}
use Rattle.snap_core.proofs.Truths.{or_rest}

-- ---- the names differ

different-step : (seen names : List (List ℕ)) (name : List ℕ) (b : Bool) → is_switch seen name ≡ b → IsDistinct bytes_eq seen → cond b (Some name) (repeat_after (seen ++ name ∷ []) names) ≡ None
    → (IsDistinct bytes_eq (seen ++ name ∷ []) → repeat_after (seen ++ name ∷ []) names ≡ None → IsDistinct bytes_eq ((seen ++ name ∷ []) ++ names)) → IsDistinct bytes_eq ((seen ++ name ∷ []) ++ names)
different-step seen names name true is apart none rest = cc
different-step seen names name false is apart none rest = rest (IsDistinct-push nat_list_eq_equiv seen name apart is) none

different-after : (seen names : List (List ℕ)) → IsDistinct bytes_eq seen → repeat_after seen names ≡ None → IsDistinct bytes_eq (seen ++ names)
different-after seen [] apart none = subst (λ (ns : List (List ℕ)). IsDistinct bytes_eq ns) (sym (append-nil seen)) apart
different-after seen (name ∷ names) apart none =
    subst (λ (ns : List (List ℕ)). IsDistinct bytes_eq ns) (append_assoc seen (name ∷ []) names)
    (different-step seen names name (is_switch seen name) refl apart none (different-after (seen ++ name ∷ []) names))

pub different : (names : List (List ℕ)) → first_repeat names ≡ None → IsDistinct bytes_eq names
unfolding IsDistinct
different names none = different-after [] names tt none

-- ---- the shape

abbrev Apart : List ℕ × List ℕ → Type 0
Apart link = bytes_eq link.0 link.1 ≡ false

abbrev Port : Type 0
Port = ℕ × List ℕ

-- what a document of the right shape spells
pub record IsShaped (s : Spelled) : Type 0 where
  pub some : 1 ≤ length s.switches
  pub names : All (λ name. IsTrue (is_switch_name name)) s.switches
  pub links : All (λ (link : List ℕ × List ℕ). bytes_eq link.0 link.1 ≡ false) s.links
  pub ports : All (λ n. 1 ≤ n) (keys_of s.ports)
  pub ports_rise : IsStrictlySortedBy nat_cmp (keys_of s.ports)

number-test : (b : Bool) (m n : ℕ) → (b ≡ true → 1 ≤ m) → cond b (Some m) None ≡ Some n → 1 ≤ n
number-test true m n one is = let low = one refl in let same : m ≡ n = cc in omega arith
number-test false m n one is = cc

port_number-some : (text : List ℕ) (n : ℕ) → port_number text ≡ Some n → 1 ≤ n
port_number-some text n is = number-test _ (digits_value 10 text) n (λ e. leb-true 1 (digits_value 10 text) (and_parts _ _ e).0) is

names-hold : (items : Items) (names : List (List ℕ)) → AreNames items names → All (λ name. IsTrue (is_switch_name name)) names
names-hold _ _ no_name = All-nil (λ name. IsTrue (is_switch_name name))
names-hold _ _ (next_name {name = name} {names = names} h k) = All-cons (λ name. IsTrue (is_switch_name name)) name names h (names-hold _ names k)

pairs-hold : (items : Items) (pairs : List (List ℕ × List ℕ)) → ArePairs items pairs → All Apart pairs
pairs-hold _ _ no_pair = All-nil Apart
pairs-hold _ _ (next_pair {a = a} {b = b} {pairs = pairs} h k apart more) = All-cons Apart (a, b) pairs apart (pairs-hold _ pairs more)

ports-hold : (members : Members) (ports : List Port) → ArePorts members ports → All (λ (p : Port). 1 ≤ p.0) ports
ports-hold _ _ no_port = All-nil (λ (p : Port). 1 ≤ p.0)
ports-hold _ _ (next_port {key = key} {name = name} {port = port} {ports = ports} n h k) = All-cons (λ (p : Port). 1 ≤ p.0) (port, name) ports (port_number-some key port n) (ports-hold _ ports k)

pub shaped : (o : Option Members) (s : Spelled) → spelled o ≡ Ok s → IsShaped s
shaped o s h =
    let i : InShape o s = in-shape o s h in
    let x : IsSwitches (get_member (codes "switches") i.toml) s.switches = switches_in-is (get_member (codes "switches") i.toml) s.switches i.switches in
    let y = links_in-is (get_member (codes "links") i.toml) s.links i.links in
    let z : IsPorts (get_member (codes "ports") i.toml) s.ports = ports_in-is (get_member (codes "ports") i.toml) s.ports i.ports in
    record {
      some = x.some;
      names = names-hold x.items s.switches x.are;
      links = pairs-hold y.0 s.links y.2;
      ports = subst (λ (ps : List Port). All (λ n. 1 ≤ n) (keys_of ps)) (sym z.by) (by_number-keys (λ n. 1 ≤ n) z.ports (ports-hold z.members z.ports z.are));
      ports_rise = subst (λ (ps : List Port). IsStrictlySortedBy nat_cmp (keys_of ps)) (sym z.by) (by_number-rise z.ports);
    }

-- ---- known names

abbrev pub Known : List (List ℕ) → List ℕ → Type 0
Known switches name = is_switch switches name ≡ true

find-step : (switches names : List (List ℕ)) (name : List ℕ) (b : Bool) → is_switch switches name ≡ b → cond (not b) (Some name) (find (is_unknown switches) names) ≡ None → Known switches name × (find (is_unknown switches) names ≡ None)
find-step switches names name true is none = (is, none)
find-step switches names name false is none = cc

pub known-names : (switches names : List (List ℕ)) → find (is_unknown switches) names ≡ None → All (Known switches) names
known-names switches [] none = All-nil (Known switches)
known-names switches (name ∷ names) none =
    let parts = find-step switches names name (is_switch switches name) refl none in All-cons (Known switches) name names parts.0 (known-names switches names parts.1)

abbrev KnownLink : List (List ℕ) → List ℕ × List ℕ → Type 0
KnownLink switches link = Known switches link.0 × Known switches link.1

known-links : (switches : List (List ℕ)) (links : List (List ℕ × List ℕ)) → find (is_unknown switches) (flat_map ends links) ≡ None → All (KnownLink switches) links
known-links switches [] none = All-nil (KnownLink switches)
known-links switches (link ∷ links) none =
    let first = find-step switches (link.1 ∷ flat_map ends links) link.0 (is_switch switches link.0) refl none in
    let second = find-step switches (flat_map ends links) link.1 (is_switch switches link.1) refl first.1 in
    All-cons (KnownLink switches) link links (first.0, second.0) (known-links switches links second.1)

-- the number of a known name is below the count
number-step : (b : Bool) (p n : ℕ) → (b ≡ false → p < n) → cond (not b) (1 + p) 0 < 1 + n
number-step true p n rest = omega arith
number-step false p n rest = let lt = rest refl in omega arith

pub number_of-below : (switches : List (List ℕ)) (name : List ℕ) → Known switches name → number_of switches name < length switches
number_of-below [] name known = cc
number_of-below (x ∷ xs) name known =
    let step = number-step (bytes_eq name x) (number_of xs name) (length xs) (λ other. number_of-below xs name (or_rest _ _ known other)) in omega (arith, step)

-- known names of one number are equal
abbrev place : Bool → ℕ → ℕ
place b p = cond (not b) (1 + p) 0

apart-step : (a b x : List ℕ) (p q : ℕ) (r t : Bool) → bytes_eq a x ≡ r → bytes_eq b x ≡ t → place r p ≡ place t q → (r ≡ false → t ≡ false → p ≡ q → bytes_eq a b ≡ true) → bytes_eq a b ≡ true
apart-step a b x p q true true is also same rest = (bytes_eq-Decides a b).1 ((bytes_eq-Decides a x).0 is ∙ sym ((bytes_eq-Decides b x).0 also))
apart-step a b x p q true false is also same rest = absurd (omega arith)
apart-step a b x p q false true is also same rest = absurd (omega arith)
apart-step a b x p q false false is also same rest = rest refl refl (omega arith)

number_of-same : (switches : List (List ℕ)) (a b : List ℕ) → Known switches a → Known switches b → number_of switches a ≡ number_of switches b → bytes_eq a b ≡ true
number_of-same [] a b known also same = cc
number_of-same (x ∷ xs) a b known also same =
    apart-step a b x (number_of xs a) (number_of xs b) (bytes_eq a x) (bytes_eq b x) refl refl same
    (λ r t e. number_of-same xs a b (or_rest _ _ known r) (or_rest _ _ also t) e)

-- ---- the topology

is_link : (a b n : ℕ) → a < n → b < n → (a ≡ b → ⊥) → IsLink n (min a b, max a b)
is_link a b n low high apart = record { lesser = omega arith; below = omega arith }

-- a link of two known names that differ
link-numbered : (switches : List (List ℕ)) (link : List ℕ × List ℕ) → Apart link → KnownLink switches link → IsLink (length switches) (numbered switches link)
link-numbered switches link apart known =
    is_link (number_of switches link.0) (number_of switches link.1) (length switches) (number_of-below switches link.0 known.0) (number_of-below switches link.1 known.1)
    (λ same. false≢true (sym apart ∙ number_of-same switches link.0 link.1 known.0 known.1 same))

links-numbered : (switches : List (List ℕ)) (links : List (List ℕ × List ℕ)) → All Apart links → All (KnownLink switches) links → All (IsLink (length switches)) (map (numbered switches) links)
links-numbered switches links apart known = All-map (IsLink (length switches)) (numbered switches) links (λ i d l. link-numbered switches (get_or links i d) (apart i d l) (known i d l))

ports-numbered : (switches : List (List ℕ)) (ports : List Port) → All (λ n. 1 ≤ n) (keys_of ports) → All (Known switches) (map port_name ports) → All (IsPort (length switches)) (map (port_at switches) ports)
ports-numbered switches [] some known = All-nil (IsPort (length switches))
ports-numbered switches (p ∷ ports) some known =
    All-cons (IsPort (length switches)) (port_at switches p) (map (port_at switches) ports) (record { some = All-head (λ n. 1 ≤ n) p.0 (keys_of ports) some; below = number_of-below switches p.1 (known 0 p.1 (omega arith)) })
    (ports-numbered switches ports (All-tail (λ n. 1 ≤ n) p.0 (keys_of ports) some) (All-tail (Known switches) p.1 (map port_name ports) known))

ports-keys : (switches : List (List ℕ)) (ports : List Port) → map (λ (p : PortAt). p.port) (map (port_at switches) ports) ≡ keys_of ports
ports-keys switches [] = refl
ports-keys switches (p ∷ ports) = ap (λ ns. p.0 ∷ ns) (ports-keys switches ports)

-- a list whose elements are all in another
all-within : {X : Type 0} (P : X → Type 0) (xs ys : List X) → ((x : X) → Contains xs x → Contains ys x) → All P ys → All P xs
all-within P xs ys within all = All-weaker (Contains xs) P (λ x here. All-contains P ys x all (within x here)) xs (All-contains_itself xs)

none-both : (o p : Option (List ℕ)) → option_or o p ≡ None → (o ≡ None) × (p ≡ None)
none-both (Some x) p is = cc
none-both None p is = (refl, is)

pub record InLimits (s : Spelled) : Type 0 where
  pub switches : length s.switches ≤ MOST_SWITCHES
  pub links : length s.links ≤ MOST_LINKS
  pub ports : length s.ports ≤ MOST_PORTS

limits-of : (s : Spelled) (a b c : Bool) → nat_lt MOST_SWITCHES (length s.switches) ≡ a → nat_lt MOST_LINKS (length s.links) ≡ b → nat_lt MOST_PORTS (length s.ports) ≡ c
    → cond {A = Option (Which × ℕ)} a (Some (Switches, length s.switches)) (cond b (Some (Links, length s.links)) (cond c (Some (Ports, length s.ports)) None)) ≡ None → InLimits s
limits-of s false false false ka kb kc h = record { switches = ltb-false MOST_SWITCHES (length s.switches) ka; links = ltb-false MOST_LINKS (length s.links) kb; ports = ltb-false MOST_PORTS (length s.ports) kc }
limits-of s true b c ka kb kc h = cc
limits-of s false true c ka kb kc h = cc
limits-of s false false true ka kb kc h = cc

pub in-limits : (s : Spelled) → too_many s ≡ None → InLimits s
in-limits s few = limits-of s (nat_lt MOST_SWITCHES (length s.switches)) (nat_lt MOST_LINKS (length s.links)) (nat_lt MOST_PORTS (length s.ports)) refl refl refl few

-- what is answered with a topology
pub record Answered (s : Spelled) (t : Topology) : Type 0 where
  pub few : too_many s ≡ None
  pub apart : first_repeat s.switches ≡ None
  pub known : first_unknown s ≡ None
  pub is : IsTopologyOf s t

known-answered : (s : Spelled) (t : Topology) (o : Option (List ℕ)) → first_unknown s ≡ o → KnownThen s o (Ok t) → too_many s ≡ None → first_repeat s.switches ≡ None → Answered s t
known-answered s t (Some name) none is few apart = cc
known-answered s t None none is few apart = record { few = few; apart = apart; known = none; is = is }

different-answered : (s : Spelled) (t : Topology) (o : Option (List ℕ)) → first_repeat s.switches ≡ o → DifferentThen s o (Ok t) → too_many s ≡ None → Answered s t
different-answered s t (Some name) apart is few = cc
different-answered s t None apart is few = known-answered s t (first_unknown s) refl is few apart

pub answered : (s : Spelled) (t : Topology) (o : Option (Which × ℕ)) → too_many s ≡ o → WithinThen s o (Ok t) → Answered s t
answered s t (Some many) few is = cc
answered s t None few is = different-answered s t (first_repeat s.switches) refl is few

-- the topology of a listing within the limits whose names are right
form : (s : Spelled) (t : Topology) → IsShaped s → Answered s t → length t.links ≤ length s.links → IsWellFormed t
form s t shape a fewer =
    let is = a.is in
    let limits : InLimits s = in-limits s a.few in
    let split = none-both _ _ (sym (find-append (is_unknown s.switches) (flat_map ends s.links) (map port_name s.ports)) ∙ a.known) in
    let count : length t.switches ≡ length s.switches = ap (λ (ns : List (List ℕ)). length ns) is.switches in
    let ports_count : length t.ports ≡ length s.ports = ap (λ (ps : List PortAt). length ps) is.ports ∙ length-map s.ports (port_at s.switches) in
    let links = all-within (IsLink (length s.switches)) t.links (map (numbered s.switches) s.links) (λ link. (is.links link).0) (links-numbered s.switches s.links shape.links (known-links s.switches s.links split.0)) in
    let ports = ports-numbered s.switches s.ports shape.ports (known-names s.switches (map port_name s.ports) split.1) in
    record {
      some = omega (arith, shape.some);
      switches = omega arith;
      names = subst (λ (ns : List (List ℕ)). All (λ name. IsTrue (is_switch_name name)) ns) (sym is.switches) shape.names;
      different = subst (λ (ns : List (List ℕ)). IsDistinct bytes_eq ns) (sym is.switches) (different s.switches a.apart);
      links = subst (λ (n : ℕ). All (IsLink n) t.links) (sym count) links;
      links_rise = is.links_rise;
      few_links = omega arith;
      ports = subst (λ (n : ℕ). All (IsPort n) t.ports) (sym count) (subst (λ (ps : List PortAt). All (IsPort (length s.switches)) ps) (sym is.ports) ports);
      ports_rise = subst (λ (ns : List ℕ). IsStrictlySortedBy nat_cmp ns) (sym (ap (λ (ps : List PortAt). map (λ (p : PortAt). p.port) ps) is.ports ∙ ports-keys s.switches s.ports)) shape.ports_rise;
      few_ports = omega arith;
    }

-- what is answered for a listing of the right shape is in form
pub form-answer : (s : Spelled) (r : Result Topology TopoFault) (Q : TopoFault → Type 0) → IsShaped s → MatchResult r (λ t. WithinThen s (too_many s) (Ok t)) Q → IfOk r (λ t. length t.links ≤ length s.links) → IfOk r IsWellFormed
form-answer s (Ok t) Q shape is fewer = form s t shape (answered s t (too_many s) refl is) fewer
form-answer s (Err e) Q shape is fewer = tt
