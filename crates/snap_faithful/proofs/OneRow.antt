-- Tables of one row.
use Rattle.std.proofs.Common.{◌≡◌, ◌≢◌, ℕ, zero, suc, ◌<◌, inl, inr, rules, Bool, true, false, cond, ap, List, [], ◌∷◌, length, map, Some, None, refl, sym, subst, ◌∙◌, arith}
use Rattle.std.specs.Prelude.{codes, nat_eq, ◌&&◌}
use Rattle.std.specs.List.{IsDistinct, filter}
use Rattle.std.specs.List.Sorted.{IsStrictlySortedBy}
use Rattle.std.proofs.lemmas.Map.Keys.{non_decreasing_from_sorted}
use Rattle.std.proofs.lemmas.Bool.{eqb-true}
use Rattle.std.proofs.lemmas.Option.{none-some, same_Some}
use Rattle.std.proofs.lemmas.List.Elements.{All-nil, All-cons}
use Rattle.snap_core.specs.declared.policy.Atom.{Atom}
use Rattle.snap_core.specs.declared.policy.Atom.TheVariants.{Num, Comp}
use Rattle.snap_core.specs.declared.policy.Update.{Update}
use Rattle.snap_core.specs.Arrays.{updates, zero_arrays}
use Rattle.snap_core.specs.Fields.{IsFields, the_ports, PrefixFits, plain_field}
use Rattle.snap_core.specs.Meaning.{Meaning}
use Rattle.snap_core.specs.Packets.{listed, no_packets, with_packet}
use Rattle.snap_core.specs.Switch.{goes_out}
use Rattle.snap_core.proofs.EvalLemmas.{listed-one}
use Rattle.snap_core.proofs.Rising.{listed-set_of, set_of-same}
use Rattle.snap_core.specs.Tests.{results, PartFits}
use Rattle.snap_topology.specs.Tables.{Table, AreRoutes}
use Rattle.snap_topology.specs.Walks.{Linked, IsDistance}
use Rattle.snap_topology.specs.Form as topo
use Rattle.snap_rows.specs.declared.tables.Rule.{Rule}
use Rattle.snap_rows.specs.declared.tables.Rule.TheVariants.{Link, Loop, Kind, Owner, Rise, Order, Missing, Spare}
use Rattle.snap_rows.specs.declared.tables.Spot.TheVariants as spot
use Rattle.snap_rows.specs.declared.tables.Row.{Row}
use Rattle.snap_rows.specs.declared.tables.Row.TheVariants.{Last}
use Rattle.snap_rows.specs.Entries.{Parts, row_at, node_of}
use Rattle.snap_rows.specs.Form.{IsWellFormed, AreOutsWellFormed, IsPartsWellFormed, IsPortWellFormed, IsRowAtWellFormed}
use Rattle.snap_rows.specs.Rules.{IsValid, Keeps}
use Rattle.snap_rows.specs.Ways.{port}
use Rattle.snap_rows.specs.Handles.{sent}
use Rattle.snap_faithful.specs.Agreement.{sent_of}
use Rattle.snap_faithful.specs.Facts.{HasMeaning}
use Rattle.snap_faithful.specs.Faithful.{HasShape, IsUsed, CanEnter, IsStoreOf}
use Rattle.snap_faithful.specs.OneRow.{to_one, one_switch, one_row, OneRowIsFaithful, AnotherLeafIsNot}
use Rattle.snap_faithful.proofs.Whole.{facts_make}
use Rattle.snap_faithful.proofs.Turning.{faithful_chains}

abbrev to_port : List Parts
to_port = ((1, Num 1) ∷ []) ∷ []

are_fields : IsFields the_ports
unfolding IsDistinct
are_fields = record {
  ports = refl;
  different = ((refl, tt), (tt, tt));
  prefixes = All-cons (λ f. PrefixFits f.prefix) (plain_field (codes "inport")) (plain_field (codes "outport") ∷ []) tt (All-cons (λ f. PrefixFits f.prefix) (plain_field (codes "outport")) [] tt (All-nil (λ f. PrefixFits f.prefix)));
  few = omega arith;
}

outs_fit : AreOutsWellFormed (one_row to_port) to_port
unfolding IsStrictlySortedBy
outs_fit = record {
  each = All-cons (IsPartsWellFormed (one_row to_port)) ((1, Num 1) ∷ []) [] (record {
    fits = All-cons (PartFits 2) (1, Num 1) [] (record { comp = omega arith; atom = tt }) (All-nil (PartFits 2));
    rising = search rules;
    changes = All-cons (λ p. p.1 ≢ Comp p.0) (1, Num 1) [] (λ e. (cc)) (All-nil (λ (p : ℕ × Atom). p.1 ≢ Comp p.0));
  }) (All-nil (IsPartsWellFormed (one_row to_port)));
  rising = (tt, tt);
}

well_formed : IsWellFormed (one_row to_port)
unfolding IsDistinct IsStrictlySortedBy
well_formed = record {
  version = inr refl;
  fields = are_fields;
  field_names = search rules;
  some_switch = search rules;
  few_switches = search rules;
  switch_names = search rules;
  switches_differ = (tt, tt);
  few_arrays = search rules;
  arrays = All-nil _;
  arrays_differ = tt;
  few_links = search rules;
  links = All-nil _;
  links_rise = tt;
  few_ports = search rules;
  ports = All-cons (IsPortWellFormed (one_row to_port)) (record { port = 1; at = 0 }) [] (record { some = omega arith; at = omega arith }) (All-nil (IsPortWellFormed (one_row to_port)));
  ports_rise = (tt, tt);
  few_hops = search rules;
  hops = All-nil _;
  hops_rise = tt;
  all_hops = λ a x la lx ne. absurd (let l : a < 1 = la in let m : x < 1 = lx in ne (omega (arith, l, m)));
  rows = All-cons (IsRowAtWellFormed (one_row to_port)) (record { at = 0; number = 0; row = Last [] to_port }) [] (record { at = omega arith; row = (refl, All-nil _, non_decreasing_from_sorted [] tt, outs_fit) }) (All-nil (IsRowAtWellFormed (one_row to_port)));
  rows_rise = (tt, tt);
}

two_not_one : {n : ℕ} → n ≡ 2 → n ≡ 1 → ⊥
two_not_one e f = omega (arith, e, f)

none_below : (q : ℕ) → q < 0 → ⊥
none_below q l = omega (arith, l)

row_keeps : (rule : Rule) → Keeps (one_row to_port) rule (spot.Row 0)
row_keeps Link = tt
row_keeps Loop = tt
row_keeps Kind = (λ e. absurd (two_not_one {n = 2} refl e), λ e. (refl, inl refl))
row_keeps Owner = λ e. absurd (two_not_one {n = 2} refl e)
row_keeps Rise = tt
row_keeps Order = λ e. tt
row_keeps Missing = λ x k leads. absurd (none_below leads.1.0 leads.1.1)
row_keeps Spare = port (0, omega arith, refl)

port_keeps : (rule : Rule) → Keeps (one_row to_port) rule (spot.Port 0)
port_keeps Missing = refl
port_keeps _ = tt

valid : IsValid (one_row to_port)
valid rule (spot.Hop i) = tt
valid rule (spot.Port zero) = port_keeps rule
valid rule (spot.Port (suc i)) = tt
valid rule (spot.Row zero) = row_keeps rule
valid rule (spot.Row (suc i)) = tt
valid rule (spot.Array i) = tt

shape : HasShape to_one one_switch [] (one_row to_port)
shape = record {
  form = well_formed;
  valid = valid;
  fields = refl;
  names = refl;
  owners = refl;
  ranks = λ two order rank. record { below = λ v l. absurd (none_below v l); group = λ v l. absurd (none_below v l) };
  switches = refl;
  links = refl;
  ports = refl;
  hops = λ a b la lb ne. absurd (let l : a < 1 = la in let m : b < 1 = lb in ne (omega (arith, l, m)));
}

-- ---- routes of one switch
abbrev routes : Table
routes = record { rows = record { distances = 0 ∷ []; nexts = 0 ∷ [] } ∷ []; diameter = 0 }

no_way : (a b : ℕ) → a < 1 → b < 1 → IsDistance (Linked []) a b 0
no_way a b la lb = record { walk = ([], (refl, omega (arith, la, lb))); least = λ xs walk. omega arith }

paths : AreRoutes one_switch routes
paths = record {
  count = refl;
  distances = λ a b la lb. subst (IsDistance (Linked []) a b) (sym (near a b la lb)) (no_way a b la lb);
  nexts = λ a b la lb ne. absurd (let l : a < 1 = la in let m : b < 1 = lb in ne (omega (arith, l, m)));
  diameter = record { reached = (0, (0, (omega arith, (omega arith, no_way 0 0 (omega arith) (omega arith))))); greatest = λ a b e la lb d. d.least [] (let l : a < 1 = la in let m : b < 1 = lb in omega (arith, l, m)) };
}
  where
    near : (a b : ℕ) → a < 1 → b < 1 → Rattle.snap_topology.specs.Tables.distance_of routes a b ≡ 0
    near zero zero la lb = refl
    near zero (suc b) la lb = absurd (omega (arith, lb))
    near (suc a) b la lb = absurd (omega (arith, la))

topology_well_formed : topo.IsWellFormed one_switch
unfolding IsDistinct IsStrictlySortedBy
topology_well_formed = record {
  some = search rules;
  switches = search rules;
  names = search rules;
  different = (tt, tt);
  links = All-nil _;
  links_rise = tt;
  few_links = search rules;
  ports = All-cons (topo.IsPort 1) (record { port = 1; at = 0 }) [] (record { some = omega arith; below = omega arith }) (All-nil (topo.IsPort 1));
  ports_rise = (tt, tt);
  few_ports = search rules;
}

only_node : (outs : List Parts) (n : ℕ) (b : Row) → node_of (one_row outs) n ≡ Some b → (n ≡ 0) × (b ≡ Last [] outs)
only_node outs n b e = by (nat_eq 0 n) refl e
  where
    by : (c : Bool) → nat_eq 0 n ≡ c → cond (c && true) (Some (Last [] outs)) None ≡ Some b → (n ≡ 0) × (b ≡ Last [] outs)
    by true is e = (sym (eqb-true 0 n is), sym (same_Some (Last [] outs) b e))
    by false isnt e = absurd (none-some b e)

last_ups : List Update → Row → List Update
last_ups d (Last us os) = us
last_ups d _ = d

last_outs : List Parts → Row → List Parts
last_outs d (Last us os) = os
last_outs d _ = d

meaning : HasMeaning (Rattle.snap_core.specs.declared.policy.Pol.TheVariants.Set 1 (Num 1)) 2 (one_row to_port)
unfolding last_ups last_outs
meaning m k store packet n ups outs comes node o is =
    let row = (only_node to_port n (Last ups outs) node).1 in
    let none : ups ≡ [] = ap (last_ups []) row in
    let out : outs ≡ to_port = ap (last_outs []) row in
    let mine : o ≡ _ = sym (same_Some _ o is) in
    (ap (λ (x : Meaning). x.packets) mine ∙ sym (ap (λ l. results l k) out), λ q. ap (λ (x : Meaning). x.arrays q) mine ∙ sym (ap (λ l. updates m l k q) none))

used : (b : Row) → b ≡ Last [] to_port → (n : ℕ) → IsUsed to_one (one_row to_port) n b
used b e n = subst (IsUsed to_one (one_row to_port) n) (sym e) tt

pub one_row_is_faithful : OneRowIsFaithful
one_row_is_faithful = facts_make to_one one_switch [] routes (one_row to_port) (record {
  fits = (omega arith, tt);
  well_formed = topology_well_formed;
  paths = paths;
  shape = shape;
  version = refl;
  meaning = meaning;
  never = λ m k store packet none. none-some _ (sym none);
  small = omega arith;
  live_and_reduced = record {
    used = λ n b node. used b (only_node to_port n b node).1 n;
    one = λ i j b a c. (only_node to_port i b a).0 ∙ sym (only_node to_port j b c).0;
  };
})

-- a packet that shows that the other leaf drops it
abbrev shown : List ℕ
shown = 1 ∷ 0 ∷ []

zeros : IsStoreOf to_one zero_arrays
zeros = record { numbers = λ q. omega arith; only = λ q l. refl }

enters : (outs : List Parts) → CanEnter to_one (one_row outs) (1, shown)
enters outs = record { packet = record { long = refl; numbers = search rules }; injected = record { port = refl; first = refl } }

only_outs : (outs : List Parts) (w n : ℕ) (us : List Update) (os : List Parts) → row_at (one_row outs) w n ≡ Some (Last us os) → os ≡ outs
unfolding last_outs
only_outs outs w n us os e = by (nat_eq 0 w && nat_eq 0 n) e
  where
    by : (c : Bool) → cond c (Some (Last [] outs)) None ≡ Some (Last us os) → os ≡ outs
    by true e = sym (ap (last_outs []) (same_Some (Last [] outs) (Last us os) e))
    by false e = absurd (none-some (Last us os) e)

-- what is sent of no packets, and of the one that the program makes
nothing_sent : sent_of (one_row []) no_packets ≡ []
nothing_sent = ap (λ l. map sent (filter (goes_out (1 ∷ [])) l)) (ap listed (sym (set_of-same [] [] refl (λ q. refl))) ∙ listed-set_of [] refl)

one_sent : sent_of (one_row []) (with_packet no_packets (1 ∷ 1 ∷ [])) ≡ sent (1 ∷ 1 ∷ []) ∷ []
one_sent = ap (λ l. map sent (filter (goes_out (1 ∷ [])) l)) (listed-one (1 ∷ 1 ∷ []))

pub another_leaf_is_not : AnotherLeafIsNot
another_leaf_is_not f =
    let c = faithful_chains to_one one_switch [] (one_row []) f refl zero_arrays 1 shown _ zeros (enters []) refl in
    let same = (c.forks c.at c.last c.ups c.outs c.chained c.leaf).0 in
    let none = ap (λ l. sent_of (one_row []) (results l shown)) (only_outs [] c.at c.last c.ups c.outs c.leaf) in
    let both : [] ≡ sent (1 ∷ 1 ∷ []) ∷ [] = sym nothing_sent ∙ sym none ∙ same ∙ one_sent in
    let lengths : 0 ≡ 1 = ap length both in
    omega (arith, lengths)
