-- Tables in form, with numbers of 64 bits, are a whole beginning: each entry may come behind those before it.
use Rattle.std.proofs.Common.{◌≡◌, ℕ, ◌<◌, ◌≤◌, ◌^◌, true, false, cond, List, [], ◌∷◌, ◌++◌, length, map, take, refl, sym, ap, subst, ◌∙◌, arith, ⊎_elim}
use Rattle.std.specs.Prelude.{◌⊎◌, ◌==◌, ◌&&◌, ◌||◌, codes, is_some, nat_le, nat_lt, not, IsTrue}
use Rattle.std.specs.List.{All, AllByRecursion, IsDistinct}
use Rattle.std.specs.List.Sorted.{IsStrictlySortedBy}
use Rattle.std.specs.Ordering.{nat_cmp}
use Rattle.std.specs.Str.{bytes_eq}
use Rattle.std.proofs.lemmas.Bool.{and_from, lt-ltb, le-leb, ne_eqb, or_right}
use Rattle.std.proofs.lemmas.Cmp.{nat_cmp_total}
use Rattle.std.proofs.lemmas.List.{map-append}
use Rattle.std.proofs.lemmas.List.Concat.{flat_map-append}
use Rattle.std.proofs.lemmas.List.Elements.{All-weaker}
use Rattle.std.proofs.lemmas.Slice.Eq.{bytes_eq-Decides}
use Rattle.snap_core.specs.declared.ports.PortAt.{PortAt}
use Rattle.snap_core.specs.declared.program.Field.{Field}
use Rattle.snap_core.specs.Fields.{IsFields, PrefixFits, names_of, plain_field, the_ports}
use Rattle.snap_core.specs.Names.{IsName, is_switch_name}
use Rattle.snap_rows.specs.declared.tables.ArrayAt.{ArrayAt}
use Rattle.snap_rows.specs.declared.tables.Tables.{Tables}
use Rattle.snap_core.specs.Ports.{link_cmp}
use Rattle.snap_rows.specs.Form.{IsArrayWellFormed, IsHopWellFormed, IsWellFormed, IsLinkWellFormed, IsPortWellFormed, IsRowAtWellFormed, row_cmp}
use Rattle.snap_tables.specs.Ranges.{RowAtInRange, TablesInRange}
use Rattle.snap_tables.specs.Entries.{AreInSequence, IsNextArray, IsNextField, IsNextLink, IsNextPort, IsNextRow, IsNextSwitch, all_declared, are_new, array_fits, declared, is_above, is_field_at, is_plain_field, link_less}
use Rattle.snap_tables.specs.ReadBack.{AreSpelled}
use Rattle.snap_tables.specs.Laws.{IsRank}
use Rattle.snap_tables.specs.Lines.{IsBeginning, counts_of, has, has_all_hops, is_ready, last_section}
use Rattle.snap_tables.proofs.Formed.{names-declared}
use Rattle.snap_tables.proofs.HopTurns.{IsGood, hops-over, hops-turn}
use Rattle.snap_tables.proofs.PieceLaws.{head-same, tail-same}
use Rattle.snap_tables.proofs.RowForms.{row-is}
use Rattle.snap_tables.proofs.Splits.{all-at, all-middle, are-new-of, new-of, sorted-above, sorted-unmap, turns}
use Rattle.snap_tables.proofs.Turns.{bytes-other, link-total, on-total, row-total}

-- ---- fields
plain-of : (k : List ℕ) (f : Field) → f ≡ plain_field k → is_plain_field k f ≡ true
plain-of k f e = and_from (bytes_eq f.name k) (not (is_some f.prefix)) ((bytes_eq-Decides f.name k).1 (ap (λ (g : Field). g.name) e)) (ap (λ (g : Field). not (is_some g.prefix)) e)

far-field : (i : ℕ) (f : Field) → 2 ≤ i → is_field_at i f ≡ true
far-field i f h =
    ap (λ b. cond b (is_plain_field (codes "inport") f) (cond (i == 1) (is_plain_field (codes "outport") f) true)) (ne_eqb i 0 (λ e. omega (arith, e, h)))
    ∙ ap (λ b. cond b (is_plain_field (codes "outport") f) true) (ne_eqb i 1 (λ e. omega (arith, e, h)))

field-at : (ys : List Field) (f : Field) (zs : List Field) → take 2 (ys ++ (f ∷ zs)) ≡ the_ports → is_field_at (length ys) f ≡ true
field-at [] f zs e = plain-of (codes "inport") f (head-same f (plain_field (codes "inport")) (take 1 zs) (plain_field (codes "outport") ∷ []) e)
field-at (g ∷ []) f zs e = plain-of (codes "outport") f (head-same f (plain_field (codes "outport")) (take 0 zs) [] (tail-same g (plain_field (codes "inport")) (f ∷ take 0 zs) (plain_field (codes "outport") ∷ []) e))
field-at (g ∷ h ∷ ys) f zs e = far-field (length (g ∷ h ∷ ys)) f (omega arith)

fields-turn : (fs : List Field) → IsFields fs → All (λ (f : Field). IsName f.name) fs → AreInSequence IsNextField fs
fields-turn fs h names = turns IsNextField fs (λ ys f zs e. (
  all-at (λ (g : Field). IsName g.name) fs ys f zs e names,
  all-at (λ (g : Field). PrefixFits g.prefix) fs ys f zs e h.prefixes,
  and_from (is_field_at (length ys) f) (are_new (all_declared ys) (declared f.name f.prefix))
      (field-at ys f zs (subst (λ l. take 2 l ≡ the_ports) e h.ports))
      (are-new-of (all_declared ys) (declared f.name f.prefix) (all_declared zs) (subst (IsDistinct bytes_eq) (apart ys f zs e) h.different)),
))
  where
    apart : (ys : List Field) (f : Field) (zs : List Field) → fs ≡ ys ++ (f ∷ zs) → names_of fs ≡ all_declared ys ++ (declared f.name f.prefix ++ all_declared zs)
    apart ys f zs e = names-declared 0 fs ∙ ap all_declared e ∙ flat_map-append (λ (g : Field). declared g.name g.prefix) ys (f ∷ zs)

two-fields : (fs : List Field) → take 2 fs ≡ the_ports → 2 ≤ length fs
two-fields [] e = absurd (omega (arith, ap length e))
two-fields (f ∷ []) e = absurd (omega (arith, ap length e))
two-fields (f ∷ g ∷ fs) e = omega arith

-- ---- arrays
array-new : (ys : List ArrayAt) (a : ArrayAt) (zs : List ArrayAt) → IsDistinct bytes_eq (map (λ (b : ArrayAt). b.name) (ys ++ (a ∷ zs))) → array_fits ys a ≡ true
unfolding IsDistinct
array-new [] a zs d = refl
array-new (y ∷ ys) a zs d =
    let name = λ (b : ArrayAt). b.name in
    let all = subst (AllByRecursion (λ q. bytes_eq y.name q ≡ false)) (map-append name ys (a ∷ zs)) d.0 in
    rw (bytes-other y.name a.name (all-middle (λ q. bytes_eq y.name q ≡ false) (map name ys) a.name (map name zs) all)) (array-new ys a zs d.1)

rank-is : (v r : ℕ) → (v ≡ 1) ⊎ (v ≡ 2) → r < 64 → (v ≡ 1 → r ≡ 0) → IsRank v r
rank-is v r which few none = ⊎_elim (λ e. subst (λ w. IsRank w r) (sym e) (none e)) (λ e. subst (λ w. IsRank w r) (sym e) few) which

has-some : {X : Type 0} (xs : List X) → 1 ≤ length xs → has xs ≡ true
has-some [] h = absurd (omega (arith, h))
has-some (x ∷ xs) h = refl

module _ (t : Tables) (f : IsWellFormed t) (b : TablesInRange t) where
  switches-turn : AreInSequence IsNextSwitch t.switches
  switches-turn = turns IsNextSwitch t.switches (λ ys x zs e. (
    all-at (λ name. IsTrue (is_switch_name name)) t.switches ys x zs e f.switch_names,
    new-of ys x zs (subst (IsDistinct bytes_eq) e f.switches_differ),
  ))

  arrays-turn : AreInSequence (IsNextArray t.version (length t.switches)) t.arrays
  arrays-turn = turns (IsNextArray t.version (length t.switches)) t.arrays (λ ys a zs e.
      let form = all-at (IsArrayWellFormed t) t.arrays ys a zs e f.arrays in
      (form.name, form.at, rank-is t.version a.rank f.version form.rank form.one, array-new ys a zs (subst (λ l. IsDistinct bytes_eq (map (λ (c : ArrayAt). c.name) l)) e f.arrays_differ)))

  links-turn : AreInSequence (IsNextLink (length t.switches)) t.links
  links-turn = turns (IsNextLink (length t.switches)) t.links (λ ys l zs e.
      let form = all-at (IsLinkWellFormed t) t.links ys l zs e f.links in
      let lesser = form.lesser in
      let below = form.below in
      (omega (arith, lesser, below), below, and_from (nat_lt l.0 l.1) (is_above link_less ys l) (lt-ltb l.0 l.1 lesser) (sorted-above link_cmp link-total ys l zs (subst (IsStrictlySortedBy link_cmp) e f.links_rise))))

  ports-turn : AreInSequence (IsNextPort (length t.switches)) t.ports
  ports-turn = turns (IsNextPort (length t.switches)) t.ports (λ ys p zs e.
      let form = all-at (IsPortWellFormed t) t.ports ys p zs e f.ports in
      let rise = sorted-unmap (λ (q : PortAt). q.port) t.ports f.ports_rise in (
        form.some,
        all-at (λ (q : PortAt). q.port < 2 ^ 32) t.ports ys p zs e b.ports,
        form.at,
        sorted-above (λ (q r : PortAt). nat_cmp q.port r.port) (on-total (λ (q : PortAt). q.port) nat_cmp_total) ys p zs (subst (IsStrictlySortedBy (λ (q r : PortAt). nat_cmp q.port r.port)) e rise),
      ))

  rows-turn : AreInSequence (IsNextRow t.version (counts_of t) t.arrays) t.rows
  rows-turn = turns (IsNextRow t.version (counts_of t) t.arrays) t.rows (λ ys r zs e.
      let form = all-at (IsRowAtWellFormed t) t.rows ys r zs e f.rows in
      let bits = all-at RowAtInRange t.rows ys r zs e b.rows in
      (form.at, bits.number, row-is t r.row form.row bits.row, sorted-above row_cmp row-total ys r zs (subst (IsStrictlySortedBy row_cmp) e f.rows_rise)))

  good-hops : All (IsGood (length t.switches)) t.hops
  good-hops = All-weaker (IsHopWellFormed t) (IsGood (length t.switches)) (λ g h. record { from = h.from; target = h.target; other = h.other; next = h.next }) t.hops f.hops

  ready : (n : ℕ) → is_ready t n ≡ true
  ready n =
      let fields = nat_lt n 2 || nat_le 2 (length t.fields) in
      let switches = nat_lt n 3 || has t.switches in
      and_from (fields && switches) (nat_lt n 7 || has_all_hops t)
      (and_from fields switches (or_right (nat_lt n 2) (nat_le 2 (length t.fields)) (le-leb 2 (length t.fields) (two-fields t.fields f.fields.ports))) (or_right (nat_lt n 3) (has t.switches) (has-some t.switches f.some_switch)))
      (or_right (nat_lt n 7) (has_all_hops t) (hops-over (length t.switches) f.few_switches t.hops good-hops f.hops_rise f.all_hops))

  beginning : IsBeginning t
  beginning = record {
    version = f.version;
    fields = fields-turn t.fields f.fields f.field_names;
    switches = switches-turn;
    arrays = arrays-turn;
    links = links-turn;
    ports = ports-turn;
    hops = hops-turn (length t.switches) f.few_switches t.hops good-hops f.hops_rise f.all_hops;
    rows = rows-turn;
    ready = ready (last_section t);
    few_comps = f.fields.few;
    few_switches = f.few_switches;
    few_arrays = f.few_arrays;
    few_links = f.few_links;
    few_ports = f.few_ports;
  }

pub are-spelled : AreSpelled
are-spelled t f b = (beginning t f b, ready t f b 8)
