-- A text that spells a topology is answered it.
use Rattle.std.proofs.Common.{◌≡◌, ℕ, ◌≤◌, true, false, cond, List, [], ◌∷◌, ◌++◌, length, map, codes, find, not, Option, None, Some, Result, Ok, Err, option_map, refl, sym, ap, ◌∙◌, subst, arith, if◌then◌else◌, nat_lt, append_assoc, flat_map, bytes_eq}
use Rattle.std.proofs.lemmas.Bool.{le-ltb, or_from}
use Rattle.std.proofs.lemmas.Cmp.{nat_list_eq_equiv}
use Rattle.std.specs.List.{All, AllByRecursion, IsDistinct}
use Rattle.std.proofs.lemmas.List.Elements.{All-tail}
use Rattle.toml.specs.Data.{string, array, Items, item, Members, get_member}
use Rattle.snap_topology.specs.Answer.{Which, Switches, Links, Ports, too_many, repeat_after, first_repeat, first_unknown, is_unknown, KnownThen, DifferentThen, WithinThen, SpelledThen, IsAnswer, IsTopologyOf}
use Rattle.snap_topology.specs.Spells.{Topology, MOST_SWITCHES, MOST_LINKS, MOST_PORTS, AreNames, no_name, next_name, ArePairs, no_pair, next_pair, ArePorts, no_port, next_port, Holds, SpellsTopology, document, by_number, is_switch, ends, port_name}
use Rattle.snap_topology.specs.Shape.{TopoFault, Shape, Spelled, spelled, name_in, with_first, names_in, switches_in, pair_of, links_listed, links_in, port_of, ports_listed, ports_in, ports_then, links_then, switches_then}

names-give : (items : Items) (names : List (List ℕ)) → AreNames items names → names_in items ≡ Some names
names-give _ _ no_name = refl
names-give _ _ (next_name {name = name} {rest = rest} {names = names} h k) =
    ap (λ b. with_first (cond b (Some name) None) (names_in rest)) h ∙ ap (with_first (Some name)) (names-give rest names k)

switches-give : (items : Items) (names : List (List ℕ)) → AreNames items names → 1 ≤ length names → switches_in (Some (array items)) ≡ Some names
switches-give _ _ no_name some = absurd (omega (arith, some))
switches-give _ _ (next_name {name = name} {rest = rest} {names = names} h k) some = names-give (item (string name) rest) (name ∷ names) (next_name h k)

pairs-give : (items : Items) (pairs : List (List ℕ × List ℕ)) → ArePairs items pairs → links_listed items ≡ Some pairs
pairs-give _ _ no_pair = refl
pairs-give _ _ (next_pair {a = a} {b = b} {rest = rest} {pairs = pairs} h k apart l) =
    ap (λ x. with_first (pair_of (cond x (Some a) None) (name_in (string b))) (links_listed rest)) h
    ∙ ap (λ x. with_first (pair_of (Some a) (cond x (Some b) None)) (links_listed rest)) k
    ∙ ap (λ x. with_first (cond x None (Some (a, b))) (links_listed rest)) apart
    ∙ ap (with_first (Some (a, b))) (pairs-give rest pairs l)

ports-give : (members : Members) (ports : List (ℕ × List ℕ)) → ArePorts members ports → ports_listed members ≡ Some ports
ports-give _ _ no_port = refl
ports-give _ _ (next_port {key = key} {name = name} {port = port} {rest = rest} {ports = ports} n h k) =
    ap (λ o. with_first (port_of o (name_in (string name))) (ports_listed rest)) n
    ∙ ap (λ x. with_first (port_of (Some port) (cond x (Some name) None)) (ports_listed rest)) h
    ∙ ap (with_first (Some (port, name))) (ports-give rest ports k)

spelled-gives : (m : Members) (switches : List (List ℕ)) (pairs : List (List ℕ × List ℕ)) (ports : List (ℕ × List ℕ)) → Holds m switches pairs ports → 1 ≤ length switches
    → spelled (Some m) ≡ Ok (record { switches = switches; links = pairs; ports = by_number ports })
spelled-gives m switches pairs ports h some =
    ap (λ b. if b then switches_then m (switches_in (get_member (codes "switches") m)) else Err (Shape 1)) h.keys
    ∙ ap (λ o. switches_then m (switches_in o)) h.names_at
    ∙ ap (switches_then m) (switches-give h.names switches h.are_names some)
    ∙ ap (λ o. links_then m switches (links_in o)) h.links_at
    ∙ ap (links_then m switches) (pairs-give h.links pairs h.are_pairs)
    ∙ ap (λ o. ports_then switches pairs (ports_in o)) h.numbers_at
    ∙ ap (λ o. ports_then switches pairs (option_map by_number o)) (ports-give h.numbers ports h.are_ports)

few-give : (s : Spelled) → length s.switches ≤ MOST_SWITCHES → length s.links ≤ MOST_LINKS → length s.ports ≤ MOST_PORTS → too_many s ≡ None
few-give s a b c =
    let many : Which → ℕ → Option (Which × ℕ) = λ which n. Some (which, n) in
    ap (λ x. cond x (many Switches (length s.switches)) (cond (nat_lt MOST_LINKS (length s.links)) (many Links (length s.links)) (cond (nat_lt MOST_PORTS (length s.ports)) (many Ports (length s.ports)) None))) (le-ltb MOST_SWITCHES (length s.switches) a)
    ∙ ap (λ x. cond x (many Links (length s.links)) (cond (nat_lt MOST_PORTS (length s.ports)) (many Ports (length s.ports)) None)) (le-ltb MOST_LINKS (length s.links) b)
    ∙ ap (λ x. cond x (many Ports (length s.ports)) None) (le-ltb MOST_PORTS (length s.ports) c)

-- ---- names that differ
All-at : (P : List ℕ → Type 0) (xs ys : List (List ℕ)) (y : List ℕ) → AllByRecursion P (xs ++ y ∷ ys) → P y
All-at P [] ys y h = h.0
All-at P (x ∷ xs) ys y h = All-at P xs ys y h.1

apart-before : (seen names : List (List ℕ)) (name : List ℕ) → IsDistinct bytes_eq (seen ++ name ∷ names) → is_switch seen name ≡ false
unfolding IsDistinct
apart-before [] names name h = refl
apart-before (x ∷ seen) names name h =
    or_from (bytes_eq name x) (is_switch seen name) (nat_list_eq_equiv.symm name x ∙ All-at (λ y. bytes_eq x y ≡ false) seen names name h.0) (apart-before seen names name h.1)

repeats-none : (seen names : List (List ℕ)) → IsDistinct bytes_eq (seen ++ names) → repeat_after seen names ≡ None
repeats-none seen [] h = refl
repeats-none seen (name ∷ names) h =
    ap (λ b. cond b (Some name) (repeat_after (seen ++ name ∷ []) names)) (apart-before seen names name h)
    ∙ repeats-none (seen ++ name ∷ []) names (subst (λ (ns : List (List ℕ)). IsDistinct bytes_eq ns) (sym (append_assoc seen (name ∷ []) names)) h)

known-none : (switches names : List (List ℕ)) → All (λ name. is_switch switches name ≡ true) names → find (is_unknown switches) names ≡ None
known-none switches [] h = refl
known-none switches (name ∷ names) h = ap (λ b. cond (not b) (Some name) (find (is_unknown switches) names)) (h 0 name (omega arith)) ∙ known-none switches names (All-tail (λ name. is_switch switches name ≡ true) name names h)

abbrev answer : Topology → Result Topology TopoFault
answer t = Ok t

-- **The topology that a text spells is the one that it is answered.**
pub answer-SpellsTopology : (text : List ℕ) (t : Topology) → SpellsTopology text t → IsAnswer text (Ok t)
answer-SpellsTopology text t h =
    let s : Spelled = record { switches = t.switches; links = h.pairs; ports = by_number h.ports } in
    let is : IsTopologyOf s t = record { switches = refl; links = h.links; links_rise = h.links_rise; ports = h.at_ports } in
    let known : KnownThen s (first_unknown s) (answer t) = subst (λ (o : Option (List ℕ)). KnownThen s o (answer t)) (sym (known-none t.switches (flat_map ends h.pairs ++ map port_name (by_number h.ports)) h.known)) is in
    let apart : DifferentThen s (first_repeat s.switches) (answer t) = subst (λ (o : Option (List ℕ)). DifferentThen s o (answer t)) (sym (repeats-none [] t.switches h.different)) known in
    let few : WithinThen s (too_many s) (answer t) = subst (λ (o : Option (Which × ℕ)). WithinThen s o (answer t)) (sym (few-give s h.few_switches h.few_links h.few_ports)) apart in
    let spells : spelled (document text) ≡ Ok s = ap spelled h.spelled ∙ spelled-gives h.toml t.switches h.pairs h.ports h.holds h.some in
    subst (λ r. SpelledThen r (answer t)) (sym spells) few
