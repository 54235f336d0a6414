-- What the frame of tables gives, whatever their rows.
use Rattle.std.proofs.Common.{◌≡◌, ◌≢◌, ℕ, ◌<◌, ◌≤◌, ◌⊎◌, inl, inr, ⊎_elim, Bool, true, false, cond, List, ◌++◌, map, length, Some, refl, sym, ap, subst, ◌∙◌, arith}
use Rattle.std.specs.Prelude.{slice_get, nat_eq, unwrap_or, Contains, IsTrue}
use Rattle.std.specs.List.{All, IsDistinct}
use Rattle.std.specs.List.Sorted.{IsStrictlySortedBy}
use Rattle.std.specs.Ordering.{nat_cmp}
use Rattle.std.specs.Str.{bytes_eq}
use Rattle.std.proofs.lemmas.Bool.{ne_eqb, eqb-false, cond-false}
use Rattle.std.proofs.lemmas.Option.{slice_get_within, slice_get-get_or, get_or_from_slice_get}
use Rattle.std.proofs.lemmas.List.{take_all, length-map}
use Rattle.std.proofs.lemmas.List.Elements.{All-map}
use Rattle.snap_core.proofs.Elements.{All-back, All-front, All-unmap}
use Rattle.snap_core.specs.declared.ports.PortAt.{PortAt}
use Rattle.snap_core.specs.declared.program.Program.{Program}
use Rattle.snap_core.specs.declared.program.Field.{Field as FieldNamed}
use Rattle.snap_core.specs.Fields.{IsFields, count, names_of}
use Rattle.snap_core.specs.Names.{IsName, is_switch_name}
use Rattle.snap_dep.specs.Ranks.{Grouping}
use Rattle.snap_topology.specs.declared.topology.Topology.{Topology}
use Rattle.snap_topology.specs.Tables.{Table, next_of}
use Rattle.snap_rows.specs.declared.tables.ArrayAt.{ArrayAt}
use Rattle.snap_rows.specs.declared.tables.Hop.{Hop}
use Rattle.snap_rows.specs.declared.tables.Tables.{Tables}
use Rattle.snap_rows.specs.Entries.{next}
use Rattle.snap_core.specs.Ports.{link_cmp}
use Rattle.snap_rows.specs.Form.{IsWellFormed, IsRowAtWellFormed, IsArrayWellFormed, IsPortWellFormed, IsLinkWellFormed, IsHopWellFormed, comps, switch_count, array_count, row_cmp, hop_cmp}
use Rattle.snap_faithful.proofs.Far.{next_nearer}
use Rattle.snap_make.specs.Outlined.{IsOutline, written_rank}
use Rattle.snap_make.specs.Pairs.{hop_entry, hop_for, at_switches}
use Rattle.snap_make.proofs.Counts.{hops_few}
use Rattle.snap_make.proofs.Entries.{found, each_at, Planned, all_planned, present, entry_cmp, switches_sorted, unmapped_sorted}
use Rattle.snap_make.proofs.Given.{IsReady}
use Rattle.snap_make.proofs.Hopped.{hop_found, hop_at, hop_case}
use Rattle.snap_placement.proofs.Names.{distinct_back}
use Rattle.snap_make.proofs.Names.{field_names}

pub from_get : {X : Type 0} (P : X → Type 0) (xs : List X) → ((i : ℕ) (x : X) → slice_get xs i ≡ Some x → P x) → All P xs
from_get P xs h = λ i d l. h i _ (slice_get-get_or xs i d l)

-- the lists of the tables, and that they are in form where their rows are
pub record IsFramed (version : ℕ) (p : Program) (t : Topology) (places : List ℕ) (routes : Table) (g : Grouping) (n : Tables) : Type 0 where
  pub switches : switch_count n ≡ length t.switches
  pub fields : comps n ≡ count p.fields
  pub names : map (λ (a : ArrayAt). a.name) n.arrays ≡ p.arrays
  pub owners : map (λ (a : ArrayAt). a.at) n.arrays ≡ places
  pub ranks : map (λ (a : ArrayAt). a.rank) n.arrays ≡ map (written_rank version) g.ranks
  pub as_many : array_count n ≡ length p.arrays
  pub few_switches : switch_count n ≤ 256
  pub arrays_low : All (λ (a : ArrayAt). a.at < switch_count n) n.arrays
  pub ports_low : All (λ (p : PortAt). p.at < switch_count n) n.ports
  pub next_is : (a b : ℕ) → a < switch_count n → b < switch_count n → a ≢ b → next n a b ≡ next_of routes a b
  pub hop_once : (i : ℕ) (h : Hop) → slice_get n.hops i ≡ Some h → (next n h.from h.target ≡ h.next) × (h.from ≢ h.target)
  pub form : All (IsRowAtWellFormed n) n.rows → IsStrictlySortedBy row_cmp n.rows → IsWellFormed n

module _ (version : ℕ) (p : Program) (t : Topology) (places : List ℕ) (routes : Table) (g : Grouping) (n : Tables)
    (either : (version ≡ 1) ⊎ (version ≡ 2)) (ready : IsReady p t places routes g) (outline : IsOutline version p t places routes g.ranks n) where
  switches : switch_count n ≡ length t.switches
  switches = ap length outline.switches

  names : map (λ (a : ArrayAt). a.name) n.arrays ≡ p.arrays
  names = outline.arrays.named ∙ take_all (length p.arrays) p.arrays (omega arith)

  owners : map (λ (a : ArrayAt). a.at) n.arrays ≡ places
  owners = outline.arrays.placed ∙ take_all (length p.arrays) places (let e = ready.as_placed in omega (arith, e))

  array_ranks : map (λ (a : ArrayAt). a.rank) n.arrays ≡ map (written_rank version) g.ranks
  array_ranks = outline.arrays.ranked ∙ ap (map (written_rank version)) (take_all (length p.arrays) g.ranks (let e = ready.input.as_many in omega (arith, e)))

  as_many : array_count n ≡ length p.arrays
  as_many = sym (length-map n.arrays (λ (a : ArrayAt). a.name)) ∙ ap length names

  -- ---- names
  all_named : All IsName (names_of p.fields ++ p.arrays)
  all_named = ready.form.names

  fields_named : All (λ (f : FieldNamed). IsName f.name) n.fields
  fields_named = subst (All (λ (f : FieldNamed). IsName f.name)) (sym outline.fields) (field_names IsName 0 p.fields (All-front IsName (names_of p.fields) p.arrays all_named))

  arrays_named : All (λ (a : ArrayAt). IsName a.name) n.arrays
  arrays_named = All-unmap IsName (λ (a : ArrayAt). a.name) n.arrays (subst (All IsName) (sym names) (All-back IsName (names_of p.fields) p.arrays all_named))

  arrays_differ : IsDistinct bytes_eq (map (λ (a : ArrayAt). a.name) n.arrays)
  arrays_differ = subst (IsDistinct bytes_eq) (sym names) (distinct_back (names_of p.fields) p.arrays ready.form.different)

  -- ---- arrays, links and ports stand at switches
  arrays_low : All (λ (a : ArrayAt). a.at < switch_count n) n.arrays
  arrays_low = All-unmap (λ w. w < switch_count n) (λ (a : ArrayAt). a.at) n.arrays (subst (All (λ w. w < switch_count n)) (sym owners) (subst (λ s. All (λ w. w < s) places) (sym switches) ready.placed))

  -- a rank is told where the version is 2
  abbrev IsTold : ℕ → Type 0
  IsTold r = (r < 64) × (version ≡ 1 → r ≡ 0)

  rank_told : (r : ℕ) → r < length g.order → IsTold (written_rank version r)
  rank_told r l = by (nat_eq version 1) refl
    where
      by : (b : Bool) → nat_eq version 1 ≡ b → IsTold (cond b 0 r)
      by true e = (omega arith, λ one. refl)
      by false e = ((let few = ready.few_groups in omega (arith, l, few)), λ one. absurd (eqb-false version 1 e one))

  ranks_told : All (λ (a : ArrayAt). IsTold a.rank) n.arrays
  ranks_told = All-unmap IsTold (λ (a : ArrayAt). a.rank) n.arrays (subst (All IsTold) (sym array_ranks) (All-map IsTold (written_rank version) g.ranks (λ i d l. rank_told _ (ready.ranked i d l))))

  arrays_form : All (IsArrayWellFormed n) n.arrays
  arrays_form = λ i d l. (let r = ranks_told i d l in record { name = arrays_named i d l; at = arrays_low i d l; rank = r.0; one = λ e. r.1 (sym outline.version ∙ e) })

  ports_form : All (IsPortWellFormed n) n.ports
  ports_form = subst (All (IsPortWellFormed n)) (sym outline.ports) (λ i d l. (let x = ready.input.well_formed.ports i d l in record { some = x.some; at = let b = x.below in let e = switches in omega (arith, b, e) }))

  links_form : All (IsLinkWellFormed n) n.links
  links_form = subst (All (IsLinkWellFormed n)) (sym outline.links) (λ i d l. (let x = ready.input.well_formed.links i d l in record { lesser = x.lesser; below = let b = x.below in let e = switches in omega (arith, b, e) }))

  -- ---- hops
  few_switches : switch_count n ≤ 256
  few_switches = subst (λ s. s ≤ 256) (sym switches) ready.input.well_formed.switches

  hop_list : map hop_entry n.hops ≡ at_switches (hop_for routes) (switch_count n) (switch_count n)
  hop_list = outline.hops ∙ ap (λ s. at_switches (hop_for routes) s s) (sym switches)

  few_hops : length n.hops ≤ 65280
  few_hops = subst (λ k. k ≤ 65280) (sym (ap length hop_list) ∙ length-map n.hops hop_entry) (hops_few routes (switch_count n) few_switches)

  next_is : (a b : ℕ) → a < switch_count n → b < switch_count n → a ≢ b → (found (map hop_entry n.hops) a b ≡ Some (next_of routes a b)) × (next n a b ≡ next_of routes a b)
  next_is a b la lb apart =
      let e : found (map hop_entry n.hops) a b ≡ Some (next_of routes a b) =
      ap (λ l. found l a b) hop_list ∙ present (hop_for routes) (switch_count n) (switch_count n) a b (next_of routes a b) la lb (cond-false _ _ _ (ne_eqb a b apart)) in
      (e, hop_found n.hops a b ∙ ap (λ o. unwrap_or o a) e)

  hop_each : (i : ℕ) (h : Hop) → slice_get n.hops i ≡ Some h → (h.from < switch_count n) × (h.target < switch_count n) × (h.from ≢ h.target) × (next_of routes h.from h.target ≡ h.next)
  hop_each i h e =
      let x : Planned (hop_for routes) (switch_count n) (switch_count n) (hop_entry h) =
      each_at hop_entry (Planned (hop_for routes) (switch_count n) (switch_count n)) n.hops i h (subst (All (Planned (hop_for routes) (switch_count n) (switch_count n))) (sym hop_list) (all_planned (hop_for routes) (switch_count n) (switch_count n))) e in
      let c = hop_case routes h.from h.target h.next x.2 in (x.0, x.1, c.0, c.1)

  next_low : (a b : ℕ) → a < switch_count n → b < switch_count n → a ≢ b → next_of routes a b < switch_count n
  next_low a b la lb apart =
      let la' = subst (λ s. a < s) switches la in
      let lb' = subst (λ s. b < s) switches lb in
      subst (λ s. next_of routes a b < s) (sym switches)
      (next_nearer t ready.input.well_formed routes ready.input.paths a b (next_of routes a b) la' lb' apart (ready.input.paths.nexts a b la' lb' apart)).0

  hop_form : (i : ℕ) (h : Hop) → slice_get n.hops i ≡ Some h → IsHopWellFormed n h
  hop_form i h e = let x = hop_each i h e in record { from = x.0; target = x.1; other = x.2; next = subst (λ y. y < switch_count n) x.3 (next_low h.from h.target x.0 x.1 x.2) }

  hop_pair : (a b : ℕ) → a < switch_count n → b < switch_count n → a ≢ b → (h : Hop) × Contains n.hops h × (h.from ≡ a) × (h.target ≡ b)
  hop_pair a b la lb apart =
      let h = hop_at n.hops a b (next_of routes a b) (next_is a b la lb apart).0 in
      (h.hop, (h.place, slice_get_within n.hops h.place h.hop h.is, get_or_from_slice_get n.hops h.place h.hop h.hop h.is), h.from, h.target)

  hops_rise : IsStrictlySortedBy hop_cmp n.hops
  hops_rise = unmapped_sorted hop_entry n.hops (subst (IsStrictlySortedBy entry_cmp) (sym hop_list) (switches_sorted (hop_for routes) (switch_count n) (switch_count n)))

  well_formed : All (IsRowAtWellFormed n) n.rows → IsStrictlySortedBy row_cmp n.rows → IsWellFormed n
  well_formed rows_form rows_rise = record {
    version = ⊎_elim (λ e. inl (outline.version ∙ e)) (λ e. inr (outline.version ∙ e)) either;
    fields = subst IsFields (sym outline.fields) ready.form.fields;
    field_names = fields_named;
    some_switch = subst (λ s. 1 ≤ s) (sym switches) ready.input.well_formed.some;
    few_switches = few_switches;
    switch_names = subst (All (λ name. IsTrue (is_switch_name name))) (sym outline.switches) ready.input.well_formed.names;
    switches_differ = subst (IsDistinct bytes_eq) (sym outline.switches) ready.input.well_formed.different;
    few_arrays = subst (λ c. c ≤ 64) (sym as_many) ready.form.few;
    arrays = arrays_form;
    arrays_differ = arrays_differ;
    few_links = subst (λ l. length l ≤ 4096) (sym outline.links) ready.input.well_formed.few_links;
    links = links_form;
    links_rise = subst (IsStrictlySortedBy link_cmp) (sym outline.links) ready.input.well_formed.links_rise;
    few_ports = subst (λ l. length l ≤ 1024) (sym outline.ports) ready.input.well_formed.few_ports;
    ports = ports_form;
    ports_rise = subst (λ l. IsStrictlySortedBy nat_cmp (map (λ (p : PortAt). p.port) l)) (sym outline.ports) ready.input.well_formed.ports_rise;
    few_hops = few_hops;
    hops = from_get (IsHopWellFormed n) n.hops hop_form;
    hops_rise = hops_rise;
    all_hops = hop_pair;
    rows = rows_form;
    rows_rise = rows_rise;
  }

  pub framed : IsFramed version p t places routes g n
  framed = record {
    switches = switches;
    fields = ap count outline.fields;
    names = names;
    owners = owners;
    ranks = array_ranks;
    as_many = as_many;
    few_switches = few_switches;
    arrays_low = arrays_low;
    ports_low = λ i d l. (ports_form i d l).at;
    next_is = λ a b la lb apart. (next_is a b la lb apart).1;
    hop_once = λ i h e. (let x = hop_each i h e in ((next_is h.from h.target x.0 x.1 x.2).1 ∙ x.3, x.2));
    form = well_formed;
  }
