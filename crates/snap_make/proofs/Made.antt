-- Tables with the planned rows of a tidied diagram are faithful.
use Rattle.std.proofs.Common.{◌≡◌, ℕ, ◌<◌, inl, inr, ⊎_elim, Bool, true, false, not, List, [], ◌∷◌, map, length, Option, Some, None, refl, sym, ap, subst, ◌∙◌, arith, ◌&&◌}
use Rattle.std.specs.Prelude.{slice_index, slice_index_or, option_map, unwrap_or}
use Rattle.std.specs.List.Sorted.{IsNonDecreasing, IsNonDecreasingBy}
use Rattle.std.proofs.lemmas.Bool.{and_parts, false≢true}
use Rattle.std.proofs.lemmas.Option.{none-some, slice_get-map, slice_get-get_or, get_or_from_slice_get, unwrap_or-slice_get}
use Rattle.std.proofs.lemmas.List.{length-map}
use Rattle.snap_core.specs.declared.policy.Update.{Update}
use Rattle.snap_core.specs.declared.program.Program.{Program}
use Rattle.snap_dep.specs.Ranks.{Grouping}
use Rattle.snap_topology.specs.declared.topology.Topology.{Topology}
use Rattle.snap_topology.specs.Tables.{Table}
use Rattle.snap_diagrams.specs.declared.node.Node.{Node}
use Rattle.snap_diagrams.specs.Arena.{IsArena}
use Rattle.snap_diagrams.specs.declared.leaf.Leaf.{Leaf}
use Rattle.snap_diagrams.specs.Diagrams.{Diagram, diagram}
use Rattle.snap_rows.specs.declared.tables.ArrayAt.{ArrayAt}
use Rattle.snap_rows.specs.declared.tables.RowAt.{RowAt}
use Rattle.snap_rows.specs.declared.tables.Tables.{Tables}
use Rattle.snap_rows.specs.declared.tables.Row.{Row}
use Rattle.snap_rows.specs.declared.tables.Row.TheVariants.{Field, State, Go, Leaf as StageLeaf, Stop, Last}
use Rattle.snap_rows.specs.Entries.{rank_of}
use Rattle.snap_rows.specs.Form.{IsWellFormed, IsRowWellFormed, switch_count}
use Rattle.snap_rows.specs.Handles.{is_field}
use Rattle.snap_rows.specs.Rules.{IsFieldRow}
use Rattle.snap_faithful.specs.Planned.{row_for, IsFront, ArePlanned}
use Rattle.snap_faithful.specs.Tidied.{Tidies}
use Rattle.snap_faithful.specs.Shown.{IsNumbering}
use Rattle.snap_faithful.specs.Generated.{IsBareDiagram, IsWritten, numbered_nodes}
use Rattle.snap_faithful.specs.Faithful.{Faithful}
use Rattle.snap_faithful.proofs.Generating.{written}
use Rattle.snap_make.specs.Outlined.{IsOutline, written_rank}
use Rattle.snap_make.specs.Fronts.{AreMarked}
use Rattle.snap_make.specs.Pairs.{row_entry, at_switches}
use Rattle.snap_make.specs.Sites.{planned}
use Rattle.snap_make.proofs.Outlining.{IsFramed, framed}
use Rattle.snap_make.proofs.Given.{IsReady}
use Rattle.snap_make.proofs.Laid.{once, row_at_is, rows_form, rows_rise}
use Rattle.snap_make.proofs.Noded.{IsNodeWellFormed, bare, node_low, node_well_formed}
use Rattle.snap_make.proofs.Standing.{no_field, Stands, stands, front_same, port_low, holder_low}
use Rattle.snap_make.proofs.Whole.{IsBuilt}

-- the marked numbers that are no field rows
abbrev pub fronts : (ℕ → Option Row) → List Bool → ℕ → Bool
fronts nodes marks i = slice_index_or marks i false && no_field (nodes i)

-- numbers of the elements of a list
mapped_at : {X : Type 0} (f h : X → ℕ) → ((x : X) → f x ≡ h x) → (xs : List X) (i : ℕ) (x : X) (d : ℕ) → i < length xs → slice_index_or (map h xs) i d ≡ f (slice_index_or xs i x)
mapped_at f h same xs i x d l = get_or_from_slice_get (map h xs) i (h (slice_index_or xs i x)) d (slice_get-map h xs i ∙ ap (option_map h) (slice_get-get_or xs i x l)) ∙ sym (same (slice_index_or xs i x))

rise_mapped : {X : Type 0} (f h : X → ℕ) → ((x : X) → f x ≡ h x) → (xs : List X) → IsNonDecreasingBy f xs → IsNonDecreasing (map h xs)
rise_mapped f h same [] r = λ i j d le l. absurd (omega (arith, l))
rise_mapped f h same (x ∷ xs) r = λ i j d le l. (
    let many = length-map (x ∷ xs) h in
    let lj : j < length (x ∷ xs) = omega (arith, many, l) in
    let b = r i j x le lj in
    let ei = mapped_at f h same (x ∷ xs) i x d (omega (arith, le, lj)) in
    let ej = mapped_at f h same (x ∷ xs) j x d lj in
    omega (arith, ei, ej, b))

told_two : (rs : List ℕ) → map (written_rank 2) rs ≡ rs
told_two [] = refl
told_two (r ∷ rs) = ap (λ xs. r ∷ xs) (told_two rs)

module _ (p : Program) (t : Topology) (places : List ℕ) (routes : Table) (g : Grouping) (d : Diagram) (ns : List (Node Leaf)) (root : ℕ) (ids numbers : List ℕ) (marks : List Bool) (n : Tables)
    (ready : IsReady p t places routes g) (built : IsBuilt p g d) (arena : IsArena ns) (tidies : Tidies g.ranks (length g.order) d (diagram ns root)) (num : IsNumbering ns root ids (slice_index numbers))
    (marked : AreMarked (numbered_nodes ns ids (slice_index numbers)) (length ids) (length ids) marks) (outline : IsOutline 2 p t places routes g.ranks n)
    (rows : map row_entry n.rows ≡ at_switches (planned n ns ids numbers marks) (length n.switches) (length ids)) where
  abbrev nodes : ℕ → Option Row
  nodes = numbered_nodes ns ids (slice_index numbers)

  facts : IsFramed 2 p t places routes g n
  facts = framed 2 p t places routes g n (inr refl) ready outline

  bare_diagram : IsBareDiagram p g.ranks ns root
  bare_diagram = bare p g d ns root built arena tidies

  array_ranks : map (λ (a : ArrayAt). a.rank) n.arrays ≡ g.ranks
  array_ranks = facts.ranks ∙ told_two g.ranks

  rank_is : (v : ℕ) → slice_index g.ranks v ≡ rank_of n v
  rank_is v = sym (
      ap (λ o. unwrap_or o 0) (sym (slice_get-map (λ (a : ArrayAt). a.rank) n.arrays v))
      ∙ unwrap_or-slice_get (map (λ (a : ArrayAt). a.rank) n.arrays) v 0
      ∙ ap (λ l. slice_index l v) array_ranks)

  in_two : (b : Row) → IsNodeWellFormed n g.ranks b → IsRowWellFormed n b
  in_two (Field test y z) h = h
  in_two (State test y z) h = h
  in_two (Go x) h = h
  in_two (StageLeaf ss os) h = h
  in_two Stop h = h
  in_two (Last us os) h = (outline.version, h.0, rise_mapped (λ (u : Update). slice_index g.ranks u.var) (λ (u : Update). rank_of n u.var) (λ u. rank_is u.var) us h.1, h.2)

  row_form : (i : ℕ) (b : Row) → nodes i ≡ Some b → IsRowWellFormed n b
  row_form i b e = in_two b (node_well_formed p g d ns root built arena tidies ids numbers num n facts.fields facts.as_many i b e)

  -- ---- rows
  abbrev plan : ℕ → ℕ → Option Row
  plan = planned n ns ids numbers marks

  low : (i : ℕ) (b : Row) → nodes i ≡ Some b → i < length ids
  low i b e = node_low p g d ns root built arena tidies ids numbers num i b e

  record Stood (w i : ℕ) (b : Row) : Type 0 where
    body : Row
    node : nodes i ≡ Some body
    stands : Stands n w (slice_index_or marks i false) body b

  row_is : (w i : ℕ) (b : Row) → plan w i ≡ Some b → Stood w i b
  row_is w i b e = by (nodes i) refl e
    where
      by : (o : Option Row) → nodes i ≡ o → row_for n w (slice_index_or marks i false) o ≡ Some b → Stood w i b
      by None is f = absurd (none-some b f)
      by (Some c) is f = record { body = c; node = is; stands = stands n w (slice_index_or marks i false) c b f }

  plan_low : (w i : ℕ) (b : Row) → plan w i ≡ Some b → (w < switch_count n) × (i < length ids)
  plan_low w i b e =
      let r = row_is w i b e in
      (⊎_elim (λ h. port_low n.ports (switch_count n) w facts.ports_low h) (λ h. holder_low n.arrays (switch_count n) w h.0 facts.arrays_low h.1) r.stands.has, low i r.body r.node)

  plan_form : (w i : ℕ) (b : Row) → plan w i ≡ Some b → IsRowWellFormed n b
  plan_form w i b e =
      let r = row_is w i b e in
      ⊎_elim (λ same. subst (IsRowWellFormed n) (sym same) (row_form i r.body r.node)) (λ stop. subst (IsRowWellFormed n) (sym stop) outline.version) r.stands.body

  well_formed : IsWellFormed n
  well_formed = facts.form (rows_form n plan (length ids) rows plan_form) (rows_rise n plan (length ids) rows)

  -- ---- fronts
  is_front : (i : ℕ) → IsFront nodes i → fronts nodes marks i ≡ true
  is_front i h = both (marked.all i (low i h.body h.is) (⊎_elim (λ e. inl e) (λ x. inr (record { from = x.0; test = x.1; yes = x.2; no = x.3; low = low x.0 (Field x.1 x.2 x.3) x.4; is = x.4; way = x.5 })) h.from)) (ap no_field h.is ∙ other h.body h.no_field)
    where
      both : {a b : Bool} → a ≡ true → b ≡ true → (a && b) ≡ true
      both e f = λ i. e i && f i

      other : (b : Row) → (IsFieldRow b → ⊥) → not (is_field b) ≡ true
      other (Field t y z) none = absurd (none tt)
      other (State t y z) none = refl
      other (Go x) none = refl
      other (StageLeaf ss os) none = refl
      other Stop none = refl
      other (Last us os) none = refl

  front_is : (i : ℕ) → fronts nodes marks i ≡ true → IsFront nodes i
  front_is i e = by (nodes i) refl (and_parts (slice_index_or marks i false) (no_field (nodes i)) e)
    where
      none_field : (b : Row) → not (is_field b) ≡ true → IsFieldRow b → ⊥
      none_field (Field t y z) f h = false≢true f
      none_field (State t y z) f h = h
      none_field (Go x) f h = h
      none_field (StageLeaf ss os) f h = h
      none_field Stop f h = h
      none_field (Last us os) f h = h

      by : (o : Option Row) → nodes i ≡ o → (slice_index_or marks i false ≡ true) × (no_field (nodes i) ≡ true) → IsFront nodes i
      by None is parts = absurd (false≢true (sym (ap no_field is) ∙ parts.1))
      by (Some b) is parts = record {
        body = b;
        is = is;
        no_field = none_field b (sym (ap no_field is) ∙ parts.1);
        from = ⊎_elim (λ x. inl x) (λ x. inr (x.from, x.test, x.yes, x.no, x.is, x.way)) (marked.marked i parts.0);
      }

  are_planned : ArePlanned n nodes (fronts nodes marks)
  are_planned = record {
    rows = λ w i. row_at_is n plan (length ids) rows plan_low w i ∙ front_same n w (slice_index_or marks i false) (nodes i);
    once = once n plan (length ids) rows plan_low;
  }

  is_written : IsWritten p t places routes g.ranks nodes (fronts nodes marks) n
  is_written = record {
    form = well_formed;
    version = outline.version;
    fields = outline.fields;
    names = facts.names;
    owners = facts.owners;
    array_ranks = array_ranks;
    switches = outline.switches;
    links = outline.links;
    ports = outline.ports;
    hops = λ a b la lb apart. facts.next_is a b (subst (λ s. a < s) (sym facts.switches) la) (subst (λ s. b < s) (sym facts.switches) lb) apart;
    hop_once = facts.hop_once;
    rows = are_planned;
    is_front = is_front;
    front_is = front_is;
  }

  pub made : Faithful p t places n
  made = written p t places routes g.ranks ns root ids (slice_index numbers) (fronts nodes marks) n ready.input bare_diagram num is_written

-- ---- tables with other rows
pub made_with : (p : Program) (t : Topology) (places : List ℕ) (routes : Table) (g : Grouping) (d : Diagram) (ns : List (Node Leaf)) (root : ℕ) (ids numbers : List ℕ) (marks : List Bool) (n : Tables) (r : List RowAt)
    → IsReady p t places routes g → IsBuilt p g d → IsArena ns → Tidies g.ranks (length g.order) d (diagram ns root) → IsNumbering ns root ids (slice_index numbers)
    → AreMarked (numbered_nodes ns ids (slice_index numbers)) (length ids) (length ids) marks → IsOutline 2 p t places routes g.ranks n
    → map row_entry r ≡ at_switches (planned n ns ids numbers marks) (length n.switches) (length ids) → Faithful p t places (record n { rows = r })
made_with p t places routes g d ns root ids numbers marks n r ready built arena tidies num marked f rows =
    made p t places routes g d ns root ids numbers marks (record n { rows = r }) ready built arena tidies num marked
    (record { version = f.version; fields = f.fields; arrays = f.arrays; switches = f.switches; links = f.links; ports = f.ports; hops = f.hops })
    rows
