-- One more entry behind a beginning of tables.
use Rattle.std.proofs.Common.{◌≡◌, ℕ, ◌+◌, ◌<◌, ◌≤◌, Bool, true, false, cond, List, [], ◌∷◌, ◌++◌, Option, Some, None, length, refl, sym, ap, subst, ◌∙◌, arith, append-nil, append_assoc}
use Rattle.std.specs.Prelude.{nat_lt}
use Rattle.std.specs.List.{flat_map}
use Rattle.std.proofs.lemmas.Bool.{ltb-false}
use Rattle.std.proofs.lemmas.List.{length_push}
use Rattle.snap_core.specs.declared.program.Which.{Which}
use Rattle.snap_rows.specs.declared.tables.Tables.{Tables}
use Rattle.snap_tables.specs.Text.{Words, array_line, field_line, first_line, hop_line, link_line, port_line, row_line, switch_line}
use Rattle.snap_tables.specs.Entries.{AreInSequence, IsNextArray, IsNextField, IsNextHop, IsNextLink, IsNextPort, IsNextRow, IsNextSwitch}
use Rattle.snap_tables.specs.Lines.{Follows, IsBeginning, counts_of, front_text, has, is_ready, item_line, last_section, lines_of, over, passed, section, with_item}
use Rattle.snap_tables.specs.declared.item.Item.{Item}
use Rattle.snap_tables.specs.declared.item.Item.TheVariants as item
use Rattle.snap_tables.proofs.PieceLemmas.{flat_map-push}
use Rattle.snap_tables.proofs.PieceLaws.{none-some}
use Rattle.snap_tables.proofs.Turns.{turn-push}

-- the sections behind the last that has begun are empty
peel : {X : Type 0} (xs : List X) (n k r : ℕ) → cond (has xs) n r ≤ k → k < n → (xs ≡ []) × (r ≤ k)
peel [] n k r h lt = (refl, h)
peel (x ∷ xs) n k r h lt = absurd (omega (arith, h, lt))

record Later (t : Tables) (k : ℕ) : Type 0 where
  rows : k < 7 → t.rows ≡ []
  hops : k < 6 → t.hops ≡ []
  ports : k < 5 → t.ports ≡ []
  links : k < 4 → t.links ≡ []
  arrays : k < 3 → t.arrays ≡ []
  switches : k < 2 → t.switches ≡ []

later : (t : Tables) (k : ℕ) → last_section t ≤ k → Later t k
later t k h =
    let r2 = cond (has t.switches) 2 1 in
    let r3 = cond (has t.arrays) 3 r2 in
    let r4 = cond (has t.links) 4 r3 in
    let r5 = cond (has t.ports) 5 r4 in
    let r6 = cond (has t.hops) 6 r5 in
    record {
      rows = λ lt. (peel t.rows 7 k r6 h lt).0;
      hops = λ lt. (peel t.hops 6 k r5 (peel t.rows 7 k r6 h (omega (arith, lt))).1 lt).0;
      ports = λ lt. (peel t.ports 5 k r4 (peel t.hops 6 k r5 (peel t.rows 7 k r6 h (omega (arith, lt))).1 (omega (arith, lt))).1 lt).0;
      links = λ lt. (peel t.links 4 k r3 (peel t.ports 5 k r4 (peel t.hops 6 k r5 (peel t.rows 7 k r6 h (omega (arith, lt))).1 (omega (arith, lt))).1 (omega (arith, lt))).1 lt).0;
      arrays = λ lt. (peel t.arrays 3 k r2 (peel t.links 4 k r3 (peel t.ports 5 k r4 (peel t.hops 6 k r5 (peel t.rows 7 k r6 h (omega (arith, lt))).1 (omega (arith, lt))).1 (omega (arith, lt))).1 (omega (arith, lt))).1 lt).0;
      switches = λ lt. (peel t.switches 2 k 1 (peel t.arrays 3 k r2 (peel t.links 4 k r3 (peel t.ports 5 k r4 (peel t.hops 6 k r5 (peel t.rows 7 k r6 h (omega (arith, lt))).1 (omega (arith, lt))).1 (omega (arith, lt))).1 (omega (arith, lt))).1 (omega (arith, lt))).1 lt).0;
    }

-- texts, one behind another
concat : Words → List ℕ
concat [] = []
concat (p ∷ ps) = p ++ concat ps

AllNil : Words → Type 0
AllNil [] = Unit {0}
AllNil (p ∷ ps) = (p ≡ []) × AllNil ps

concat-nil : (zs : Words) → AllNil zs → concat zs ≡ []
unfolding concat AllNil
concat-nil [] h = refl
concat-nil (z ∷ zs) h = ap (λ l. l ++ concat zs) h.0 ∙ concat-nil zs h.1

put-last : (ps : Words) (x e : List ℕ) (zs : Words) → AllNil zs → concat (ps ++ ((x ++ e) ∷ zs)) ≡ concat (ps ++ (x ∷ zs)) ++ e
unfolding concat AllNil
put-last [] x e zs h = ap (λ l. (x ++ e) ++ l) (concat-nil zs h) ∙ append-nil (x ++ e) ∙ ap (λ l. l ++ e) (sym (append-nil x)) ∙ ap (λ l. (x ++ l) ++ e) (sym (concat-nil zs h))
put-last (p ∷ ps) x e zs h = ap (λ l. p ++ l) (put-last ps x e zs h) ∙ sym (append_assoc p (concat (ps ++ (x ∷ zs))) e)

sections : Tables → Words
sections t =
    first_line t.version ∷ flat_map field_line t.fields ∷ flat_map switch_line t.switches ∷ flat_map (array_line t.version) t.arrays
    ∷ flat_map link_line t.links ∷ flat_map port_line t.ports ∷ flat_map hop_line t.hops ∷ flat_map row_line t.rows ∷ []

three : (a b c r : List ℕ) → (a ++ (b ++ c)) ++ r ≡ a ++ (b ++ (c ++ r))
three a b c r = append_assoc a (b ++ c) r ∙ ap (λ l. a ++ l) (append_assoc b c r)

front-sections : (t : Tables) → front_text t ≡ concat (sections t)
unfolding concat sections
front-sections t =
    let f = flat_map field_line t.fields in
    let s = flat_map switch_line t.switches in
    let a = flat_map (array_line t.version) t.arrays in
    let l = flat_map link_line t.links in
    let p = flat_map port_line t.ports in
    let h = flat_map hop_line t.hops in
    let r = flat_map row_line t.rows in
    ap (λ x. first_line t.version ++ x) (
    three f s a ((l ++ (p ++ h)) ++ r)
    ∙ ap (λ x. f ++ (s ++ (a ++ x))) (three l p h r ∙ ap (λ x. l ++ (p ++ (h ++ x))) (sym (append-nil r)))
    )

-- the text of a beginning with one more entry
module _ (t : Tables) where
  sections-put : (it : Item) → Later t (section it) → concat (sections (with_item t it)) ≡ concat (sections t) ++ item_line t.version it
  unfolding sections concat AllNil
  sections-put (item.Field x) l =
      ap (λ y. concat (first_line t.version ∷ y ∷ flat_map switch_line t.switches ∷ flat_map (array_line t.version) t.arrays ∷ flat_map link_line t.links ∷ flat_map port_line t.ports ∷ flat_map hop_line t.hops ∷ flat_map row_line t.rows ∷ [])) (flat_map-push field_line t.fields x)
      ∙ put-last (first_line t.version ∷ []) (flat_map field_line t.fields) (field_line x) (flat_map switch_line t.switches ∷ flat_map (array_line t.version) t.arrays ∷ flat_map link_line t.links ∷ flat_map port_line t.ports ∷ flat_map hop_line t.hops ∷ flat_map row_line t.rows ∷ [])
      (ap (flat_map switch_line) (l.switches (omega arith)), (ap (flat_map (array_line t.version)) (l.arrays (omega arith)), (ap (flat_map link_line) (l.links (omega arith)), (ap (flat_map port_line) (l.ports (omega arith)), (ap (flat_map hop_line) (l.hops (omega arith)), (ap (flat_map row_line) (l.rows (omega arith)), tt))))))
  sections-put (item.Switch x) l =
      ap (λ y. concat (first_line t.version ∷ flat_map field_line t.fields ∷ y ∷ flat_map (array_line t.version) t.arrays ∷ flat_map link_line t.links ∷ flat_map port_line t.ports ∷ flat_map hop_line t.hops ∷ flat_map row_line t.rows ∷ [])) (flat_map-push switch_line t.switches x)
      ∙ put-last (first_line t.version ∷ flat_map field_line t.fields ∷ []) (flat_map switch_line t.switches) (switch_line x) (flat_map (array_line t.version) t.arrays ∷ flat_map link_line t.links ∷ flat_map port_line t.ports ∷ flat_map hop_line t.hops ∷ flat_map row_line t.rows ∷ [])
      (ap (flat_map (array_line t.version)) (l.arrays (omega arith)), (ap (flat_map link_line) (l.links (omega arith)), (ap (flat_map port_line) (l.ports (omega arith)), (ap (flat_map hop_line) (l.hops (omega arith)), (ap (flat_map row_line) (l.rows (omega arith)), tt)))))
  sections-put (item.Array x) l =
      ap (λ y. concat (first_line t.version ∷ flat_map field_line t.fields ∷ flat_map switch_line t.switches ∷ y ∷ flat_map link_line t.links ∷ flat_map port_line t.ports ∷ flat_map hop_line t.hops ∷ flat_map row_line t.rows ∷ [])) (flat_map-push (array_line t.version) t.arrays x)
      ∙ put-last (first_line t.version ∷ flat_map field_line t.fields ∷ flat_map switch_line t.switches ∷ []) (flat_map (array_line t.version) t.arrays) (array_line t.version x) (flat_map link_line t.links ∷ flat_map port_line t.ports ∷ flat_map hop_line t.hops ∷ flat_map row_line t.rows ∷ [])
      (ap (flat_map link_line) (l.links (omega arith)), (ap (flat_map port_line) (l.ports (omega arith)), (ap (flat_map hop_line) (l.hops (omega arith)), (ap (flat_map row_line) (l.rows (omega arith)), tt))))
  sections-put (item.Link x) l =
      ap (λ y. concat (first_line t.version ∷ flat_map field_line t.fields ∷ flat_map switch_line t.switches ∷ flat_map (array_line t.version) t.arrays ∷ y ∷ flat_map port_line t.ports ∷ flat_map hop_line t.hops ∷ flat_map row_line t.rows ∷ [])) (flat_map-push link_line t.links x)
      ∙ put-last (first_line t.version ∷ flat_map field_line t.fields ∷ flat_map switch_line t.switches ∷ flat_map (array_line t.version) t.arrays ∷ []) (flat_map link_line t.links) (link_line x) (flat_map port_line t.ports ∷ flat_map hop_line t.hops ∷ flat_map row_line t.rows ∷ [])
      (ap (flat_map port_line) (l.ports (omega arith)), (ap (flat_map hop_line) (l.hops (omega arith)), (ap (flat_map row_line) (l.rows (omega arith)), tt)))
  sections-put (item.Port x) l =
      ap (λ y. concat (first_line t.version ∷ flat_map field_line t.fields ∷ flat_map switch_line t.switches ∷ flat_map (array_line t.version) t.arrays ∷ flat_map link_line t.links ∷ y ∷ flat_map hop_line t.hops ∷ flat_map row_line t.rows ∷ [])) (flat_map-push port_line t.ports x)
      ∙ put-last (first_line t.version ∷ flat_map field_line t.fields ∷ flat_map switch_line t.switches ∷ flat_map (array_line t.version) t.arrays ∷ flat_map link_line t.links ∷ []) (flat_map port_line t.ports) (port_line x) (flat_map hop_line t.hops ∷ flat_map row_line t.rows ∷ [])
      (ap (flat_map hop_line) (l.hops (omega arith)), (ap (flat_map row_line) (l.rows (omega arith)), tt))
  sections-put (item.Hop x) l =
      ap (λ y. concat (first_line t.version ∷ flat_map field_line t.fields ∷ flat_map switch_line t.switches ∷ flat_map (array_line t.version) t.arrays ∷ flat_map link_line t.links ∷ flat_map port_line t.ports ∷ y ∷ flat_map row_line t.rows ∷ [])) (flat_map-push hop_line t.hops x)
      ∙ put-last (first_line t.version ∷ flat_map field_line t.fields ∷ flat_map switch_line t.switches ∷ flat_map (array_line t.version) t.arrays ∷ flat_map link_line t.links ∷ flat_map port_line t.ports ∷ []) (flat_map hop_line t.hops) (hop_line x) (flat_map row_line t.rows ∷ [])
      (ap (flat_map row_line) (l.rows (omega arith)), tt)
  sections-put (item.Row x) l =
      ap (λ y. concat (first_line t.version ∷ flat_map field_line t.fields ∷ flat_map switch_line t.switches ∷ flat_map (array_line t.version) t.arrays ∷ flat_map link_line t.links ∷ flat_map port_line t.ports ∷ flat_map hop_line t.hops ∷ y ∷ [])) (flat_map-push row_line t.rows x)
      ∙ put-last (first_line t.version ∷ flat_map field_line t.fields ∷ flat_map switch_line t.switches ∷ flat_map (array_line t.version) t.arrays ∷ flat_map link_line t.links ∷ flat_map port_line t.ports ∷ flat_map hop_line t.hops ∷ []) (flat_map row_line t.rows) (row_line x) [] tt

  pub front-put : (it : Item) → last_section t ≤ section it → front_text (with_item t it) ≡ front_text t ++ item_line t.version it
  front-put it h = front-sections (with_item t it) ∙ sections-put it (later t (section it) h) ∙ ap (λ l. l ++ item_line t.version it) (sym (front-sections t))

  pub lines-put : (it : Item) → lines_of (with_item t it) ≡ lines_of t + 1
  lines-put (item.Field x) = omega (arith, length_push t.fields x)
  lines-put (item.Switch x) = omega (arith, length_push t.switches x)
  lines-put (item.Array x) = omega (arith, length_push t.arrays x)
  lines-put (item.Link x) = omega (arith, length_push t.links x)
  lines-put (item.Port x) = omega (arith, length_push t.ports x)
  lines-put (item.Hop x) = omega (arith, length_push t.hops x)
  lines-put (item.Row x) = omega (arith, length_push t.rows x)

has-push : {X : Type 0} (xs : List X) (x : X) → has (xs ++ (x ∷ [])) ≡ true
has-push [] x = refl
has-push (y ∷ ys) x = refl

over-none : (which : Which) (most n : ℕ) → over which most n ≡ None → n ≤ most
over-none which most n e = at (nat_lt most n) refl e
  where
    at : (b : Bool) → nat_lt most n ≡ b → cond {A = Option (Which × ℕ)} b (Some (which, n)) None ≡ None → n ≤ most
    at true is e = absurd (none-some (which, n) (sym e))
    at false is e = ltb-false most n is

module _ (t : Tables) (b : IsBeginning t) where
  last-put : (it : Item) → Later t (section it) → last_section (with_item t it) ≡ section it
  last-put (item.Field x) l = rw (l.rows (omega arith), l.hops (omega arith), l.ports (omega arith), l.links (omega arith), l.arrays (omega arith), l.switches (omega arith)) refl
  last-put (item.Switch x) l = rw (l.rows (omega arith), l.hops (omega arith), l.ports (omega arith), l.links (omega arith), l.arrays (omega arith), has-push t.switches x) refl
  last-put (item.Array x) l = rw (l.rows (omega arith), l.hops (omega arith), l.ports (omega arith), l.links (omega arith), has-push t.arrays x) refl
  last-put (item.Link x) l = rw (l.rows (omega arith), l.hops (omega arith), l.ports (omega arith), has-push t.links x) refl
  last-put (item.Port x) l = rw (l.rows (omega arith), l.hops (omega arith), has-push t.ports x) refl
  last-put (item.Hop x) l = rw (l.rows (omega arith), has-push t.hops x) refl
  last-put (item.Row x) l = rw (has-push t.rows x) refl

  ready-same : (it : Item) → is_ready (with_item t it) (section it) ≡ is_ready t (section it)
  ready-same (item.Field x) = refl
  ready-same (item.Switch x) = refl
  ready-same (item.Array x) = refl
  ready-same (item.Link x) = refl
  ready-same (item.Port x) = refl
  ready-same (item.Hop x) = refl
  ready-same (item.Row x) = refl

  ready-put : (it : Item) → Follows t it → is_ready (with_item t it) (last_section (with_item t it)) ≡ true
  ready-put it f = ap (is_ready (with_item t it)) (last-put it (later t (section it) f.order)) ∙ ready-same it ∙ f.ready

  none-yet : {X : Type 0} (IsNext : List X → X → Type 0) (xs : List X) → xs ≡ [] → AreInSequence IsNext xs
  none-yet IsNext xs e = subst (AreInSequence IsNext) (sym e) tt

  -- it is a beginning
  pub beginning-put : (it : Item) → Follows t it → passed (with_item t it) it ≡ None → IsBeginning (with_item t it)
  beginning-put (item.Field x) f p =
      let l = later t 1 f.order in
      record {
        version = b.version;
        fields = turn-push IsNextField t.fields x b.fields f.next;
        switches = b.switches;
        arrays = b.arrays;
        links = b.links;
        ports = b.ports;
        hops = b.hops;
        rows = none-yet (IsNextRow t.version (counts_of (with_item t (item.Field x))) t.arrays) t.rows (l.rows (omega arith));
        ready = ready-put (item.Field x) f;
        few_comps = over-none _ 64 _ p;
        few_switches = b.few_switches;
        few_arrays = b.few_arrays;
        few_links = b.few_links;
        few_ports = b.few_ports;
      }
  beginning-put (item.Switch x) f p =
      let l = later t 2 f.order in
      let n = length (t.switches ++ (x ∷ [])) in
      record {
        version = b.version;
        fields = b.fields;
        switches = turn-push IsNextSwitch t.switches x b.switches f.next;
        arrays = none-yet (IsNextArray t.version n) t.arrays (l.arrays (omega arith));
        links = none-yet (IsNextLink n) t.links (l.links (omega arith));
        ports = none-yet (IsNextPort n) t.ports (l.ports (omega arith));
        hops = none-yet (IsNextHop n) t.hops (l.hops (omega arith));
        rows = none-yet (IsNextRow t.version (counts_of (with_item t (item.Switch x))) t.arrays) t.rows (l.rows (omega arith));
        ready = ready-put (item.Switch x) f;
        few_comps = b.few_comps;
        few_switches = over-none _ 256 _ p;
        few_arrays = b.few_arrays;
        few_links = b.few_links;
        few_ports = b.few_ports;
      }
  beginning-put (item.Array x) f p =
      let l = later t 3 f.order in
      record {
        version = b.version;
        fields = b.fields;
        switches = b.switches;
        arrays = turn-push (IsNextArray t.version (length t.switches)) t.arrays x b.arrays f.next;
        links = b.links;
        ports = b.ports;
        hops = b.hops;
        rows = none-yet (IsNextRow t.version (counts_of (with_item t (item.Array x))) (t.arrays ++ (x ∷ []))) t.rows (l.rows (omega arith));
        ready = ready-put (item.Array x) f;
        few_comps = b.few_comps;
        few_switches = b.few_switches;
        few_arrays = over-none _ 64 _ p;
        few_links = b.few_links;
        few_ports = b.few_ports;
      }
  beginning-put (item.Link x) f p = record {
    version = b.version;
    fields = b.fields;
    switches = b.switches;
    arrays = b.arrays;
    links = turn-push (IsNextLink (length t.switches)) t.links x b.links f.next;
    ports = b.ports;
    hops = b.hops;
    rows = b.rows;
    ready = ready-put (item.Link x) f;
    few_comps = b.few_comps;
    few_switches = b.few_switches;
    few_arrays = b.few_arrays;
    few_links = over-none _ 4096 _ p;
    few_ports = b.few_ports;
  }
  beginning-put (item.Port x) f p = record {
    version = b.version;
    fields = b.fields;
    switches = b.switches;
    arrays = b.arrays;
    links = b.links;
    ports = turn-push (IsNextPort (length t.switches)) t.ports x b.ports f.next;
    hops = b.hops;
    rows = b.rows;
    ready = ready-put (item.Port x) f;
    few_comps = b.few_comps;
    few_switches = b.few_switches;
    few_arrays = b.few_arrays;
    few_links = b.few_links;
    few_ports = over-none _ 1024 _ p;
  }
  beginning-put (item.Hop x) f p = record {
    version = b.version;
    fields = b.fields;
    switches = b.switches;
    arrays = b.arrays;
    links = b.links;
    ports = b.ports;
    hops = turn-push (IsNextHop (length t.switches)) t.hops x b.hops f.next;
    rows = b.rows;
    ready = ready-put (item.Hop x) f;
    few_comps = b.few_comps;
    few_switches = b.few_switches;
    few_arrays = b.few_arrays;
    few_links = b.few_links;
    few_ports = b.few_ports;
  }
  beginning-put (item.Row x) f p = record {
    version = b.version;
    fields = b.fields;
    switches = b.switches;
    arrays = b.arrays;
    links = b.links;
    ports = b.ports;
    hops = b.hops;
    rows = turn-push (IsNextRow t.version (counts_of t) t.arrays) t.rows x b.rows f.next;
    ready = ready-put (item.Row x) f;
    few_comps = b.few_comps;
    few_switches = b.few_switches;
    few_arrays = b.few_arrays;
    few_links = b.few_links;
    few_ports = b.few_ports;
  }
