-- Tables with the rows that are demanded of a tidied diagram are faithful.
use Rattle.std.proofs.Common.{◌≡◌, ◌≢◌, ℕ, ◌<◌, ◌≤◌, inl, Bool, true, false, cond, List, [], ◌∷◌, map, length, Option, Some, None, refl, sym, ap, subst, ◌∙◌, arith}
use Rattle.std.specs.Prelude.{slice_index, nat_eq, option_map, unwrap_or, if◌then◌else◌}
use Rattle.std.specs.List.{All}
use Rattle.std.proofs.lemmas.Option.{none-some, same_Some, slice_get_within, slice_get-map, unwrap_or-slice_get}
use Rattle.snap_core.specs.declared.policy.Update.{Update}
use Rattle.snap_core.specs.declared.program.Program.{Program}
use Rattle.snap_dep.specs.Ranks.{Grouping}
use Rattle.snap_topology.specs.declared.topology.Topology.{Topology}
use Rattle.snap_topology.specs.Tables.{Table}
use Rattle.snap_diagrams.specs.declared.node.Node.{Node}
use Rattle.snap_diagrams.specs.Arena.{IsArena}
use Rattle.snap_diagrams.specs.declared.leaf.Leaf.{Leaf}
use Rattle.snap_diagrams.specs.Diagrams.{Diagram, diagram}
use Rattle.snap_rows.specs.declared.tables.ArrayAt.{ArrayAt}
use Rattle.snap_rows.specs.declared.tables.Tables.{Tables}
use Rattle.snap_rows.specs.declared.tables.Row.{Row}
use Rattle.snap_rows.specs.declared.tables.Row.TheVariants.{Field, State, Go, Leaf as StageLeaf, Stop, Last}
use Rattle.snap_rows.specs.Entries.{Parts, var_of}
use Rattle.snap_rows.specs.Form.{IsWellFormed, IsRowWellFormed, IsLeafStageWellFormed, IsUpdateWellFormed, switch_count}
use Rattle.snap_faithful.specs.Tidied.{Tidies}
use Rattle.snap_faithful.specs.Shown.{IsNumbering}
use Rattle.snap_faithful.specs.Generated.{IsBareDiagram, numbered_nodes}
use Rattle.snap_faithful.specs.Closed.{IsClosed}
use Rattle.snap_make.specs.Demands.{IsSetting}
use Rattle.snap_faithful.specs.Derived.{IsWanted, AreMarked}
use Rattle.snap_faithful.specs.Faithful.{Faithful}
use Rattle.snap_faithful.specs.OnDemand.{row_on, stages_of, place_of, HasNodes, AreOnDemand}
use Rattle.snap_faithful.specs.Written.{RisesFrom, IsWrittenOnDemand}
use Rattle.snap_faithful.proofs.Closed.{closed_is_whole}
use Rattle.snap_faithful.proofs.Derived.{derived_is_on_demand}
use Rattle.snap_faithful.proofs.Forms.{rises_from, stages_alternate, stages_at, stages_keep, stages_some}
use Rattle.snap_make.proofs.Nearer.{comes_nearer}
use Rattle.snap_faithful.proofs.Stages.{RiseFrom, stages_few}
use Rattle.snap_make.proofs.Walking.{place_low}
use Rattle.snap_faithful.proofs.Written as written
use Rattle.snap_faithful.proofs.Written.{written_on_demand}
use Rattle.snap_make.specs.Outlined.{IsOutline}
use Rattle.snap_make.specs.Pairs.{row_entry, at_switches}
use Rattle.snap_make.proofs.Outlining.{IsFramed, framed}
use Rattle.snap_make.proofs.Given.{IsReady}
use Rattle.snap_make.proofs.Laid.{once, row_at_is, rows_form, rows_rise}
use Rattle.snap_make.proofs.Noded.{IsNodeWellFormed, bare, node_low, node_well_formed}
use Rattle.snap_make.proofs.Sharing.{body_is}
use Rattle.snap_make.proofs.Whole.{IsBuilt}

-- ---- before there are rows
module _ (p : Program) (t : Topology) (places : List ℕ) (routes : Table) (g : Grouping) (n : Tables) (ready : IsReady p t places routes g) (outline : IsOutline 1 p t places routes g.ranks n) where
  pub facts : IsFramed 1 p t places routes g n
  facts = framed 1 p t places routes g n (inl refl) ready outline

  -- what `demands` asks of the tables
  pub setting : IsSetting n routes
  setting = let f = facts in record {
    some = subst (λ s. 1 ≤ s) (sym f.switches) ready.input.well_formed.some;
    few = f.few_switches;
    arrays = f.arrays_low;
    ports = f.ports_low;
    count = ready.input.paths.count ∙ sym f.switches;
    hops = f.next_is;
    nearer = comes_nearer t ready.input.well_formed routes ready.input.paths;
  }

  pub has_nodes : (d : Diagram) (ns : List (Node Leaf)) (root : ℕ) → IsBuilt p g d → IsArena ns → Tidies g.ranks (length g.order) d (diagram ns root)
      → (ids : List ℕ) (number : ℕ → ℕ) → IsNumbering ns root ids number → HasNodes n (numbered_nodes ns ids number)
  has_nodes d ns root built arena tidies ids number num =
      written.has_nodes p t places routes g.ranks ns root ids number n ready.input (bare p g d ns root built arena tidies) num facts.names

-- the row of a pair that is marked
abbrev pub wanted_row : Tables → (ℕ → Option Row) → (ℕ → ℕ → Bool) → ℕ → ℕ → Option Row
wanted_row t nodes has w i = if has w i then option_map (row_on (place_of t) w) (nodes i) else None

module _ (p : Program) (t : Topology) (places : List ℕ) (routes : Table) (g : Grouping) (d : Diagram) (ns : List (Node Leaf)) (root : ℕ) (ids numbers : List ℕ) (has : ℕ → ℕ → Bool) (n : Tables)
    (ready : IsReady p t places routes g) (built : IsBuilt p g d) (arena : IsArena ns) (tidies : Tidies g.ranks (length g.order) d (diagram ns root)) (num : IsNumbering ns root ids (slice_index numbers))
    (wide : length numbers ≡ length ns) (outline : IsOutline 1 p t places routes g.ranks n)
    (low : (w i : ℕ) → has w i ≡ true → w < switch_count n) (sound : (w i : ℕ) → has w i ≡ true → IsWanted n (numbered_nodes ns ids (slice_index numbers)) w i)
    (closed : IsClosed n (numbered_nodes ns ids (slice_index numbers)) has)
    (rows : map row_entry n.rows ≡ at_switches (wanted_row n (numbered_nodes ns ids (slice_index numbers)) has) (switch_count n) (length ids)) where
  abbrev nodes : ℕ → Option Row
  nodes = numbered_nodes ns ids (slice_index numbers)

  abbrev at : ℕ → ℕ
  at = place_of n

  f : IsFramed 1 p t places routes g n
  f = facts p t places routes g n ready outline

  bare_diagram : IsBareDiagram p g.ranks ns root
  bare_diagram = bare p g d ns root built arena tidies

  good : HasNodes n nodes
  good = has_nodes p t places routes g n ready outline d ns root built arena tidies ids (slice_index numbers) num

  formed : (i : ℕ) (b : Row) → nodes i ≡ Some b → IsNodeWellFormed n g.ranks b
  formed i b e = node_well_formed p g d ns root built arena tidies ids numbers num n f.fields f.as_many i b e

  at_low : (v : ℕ) → at v < switch_count n
  at_low v = place_low n routes (setting p t places routes g n ready outline) v

  -- ---- stages
  rises : (i : ℕ) (us : List Update) (os : List Parts) → nodes i ≡ Some (Last us os) → RisesFrom g.ranks (length p.arrays) 0 us
  rises i us os e =
      let h = formed i (Last us os) e in
      rises_from g.ranks (length p.arrays) 0 us h.1 (λ j x l. (let v = (h.0 j x l).fits.var in let m = f.as_many in omega (arith, v, m))) (λ u vs is. omega arith)

  at_is : (v : ℕ) → at v ≡ slice_index places v
  at_is v =
      ap (λ o. unwrap_or o 0) (sym (slice_get-map (λ (a : ArrayAt). a.at) n.arrays v))
      ∙ unwrap_or-slice_get (map (λ (a : ArrayAt). a.at) n.arrays) v 0
      ∙ ap (λ l. slice_index l v) f.owners

  together : (u v : ℕ) → u < length p.arrays → v < length p.arrays → slice_index g.ranks u ≡ slice_index g.ranks v → at u ≡ at v
  together u v lu lv e = at_is u ∙ ready.input.together u v lu lv e ∙ sym (at_is v)

  below : (v : ℕ) → v < length p.arrays → slice_index g.ranks v < length g.order
  below v l = ready.ranked v 0 (let m = ready.input.as_many in omega (arith, m, l))

  rise_from : (r : ℕ) (us : List Update) → RisesFrom g.ranks (length p.arrays) r us → RiseFrom at (length g.order) (length p.arrays) (slice_index g.ranks) together r us
  rise_from r [] h = tt
  rise_from r (u ∷ us) h = (h.0, below u.var h.1, h.1, rise_from (slice_index g.ranks u.var) us h.2)

  few : (i : ℕ) (us : List Update) (os : List Parts) → nodes i ≡ Some (Last us os) → length (stages_of at us) ≤ 65535
  few i us os e =
      let s = stages_few at (length g.order) (length p.arrays) (slice_index g.ranks) together 0 us (omega arith) (rise_from 0 us (rises i us os e)) in
      let groups = ready.few_groups in omega (arith, s, groups)

  turns : (us : List Update) → All (IsUpdateWellFormed n) us → All (IsLeafStageWellFormed n) (stages_of at us)
  turns us all = λ i x l. record {
    at = stages_at (λ w. w < switch_count n) at at_low us i x l;
    some = stages_some at us i x l;
    each = stages_keep (IsUpdateWellFormed n) at us all i x l;
  }

  -- ---- rows
  node_row : (w i : ℕ) (c : Row) → nodes i ≡ Some c → IsNodeWellFormed n g.ranks c → IsRowWellFormed n (row_on at w c)
  node_row w i (Field test y z) e h = h
  node_row w i (State test y z) e h = by (nat_eq (at (var_of test)) w)
    where
      by : (b : Bool) → IsRowWellFormed n (cond b (State test y z) (Go (at (var_of test))))
      by true = h
      by false = (outline.version, at_low (var_of test))
  node_row w i (Last us os) e h = (outline.version, few i us os e, turns us h.0, stages_alternate at us, h.2)
  node_row w i (Go x) e h = absurd (good.kinds i (Go x) e)
  node_row w i (StageLeaf ss os) e h = absurd (good.kinds i (StageLeaf ss os) e)
  node_row w i Stop e h = absurd (good.kinds i Stop e)

  abbrev plan : ℕ → ℕ → Option Row
  plan = wanted_row n nodes has

  record Stood (w i : ℕ) (b : Row) : Type 0 where
    marked : has w i ≡ true
    body : Row
    node : nodes i ≡ Some body
    is : row_on at w body ≡ b

  row_is : (w i : ℕ) (b : Row) → plan w i ≡ Some b → Stood w i b
  row_is w i b e = by (has w i) (nodes i) refl refl e
    where
      by : (m : Bool) (o : Option Row) → has w i ≡ m → nodes i ≡ o → cond m (option_map (row_on at w) o) None ≡ Some b → Stood w i b
      by true (Some c) marked node is = record { marked = marked; body = c; node = node; is = same_Some (row_on at w c) b is }
      by true None marked node is = absurd (none-some b is)
      by false o marked node is = absurd (none-some b is)

  plan_low : (w i : ℕ) (b : Row) → plan w i ≡ Some b → (w < switch_count n) × (i < length ids)
  plan_low w i b e = let r = row_is w i b e in (low w i r.marked, node_low p g d ns root built arena tidies ids numbers num i r.body r.node)

  plan_form : (w i : ℕ) (b : Row) → plan w i ≡ Some b → IsRowWellFormed n b
  plan_form w i b e = let r = row_is w i b e in subst (IsRowWellFormed n) r.is (node_row w i r.body r.node (formed i r.body r.node))

  well_formed : IsWellFormed n
  well_formed = f.form (rows_form n plan (length ids) rows plan_form) (rows_rise n plan (length ids) rows)

  -- ---- demand
  first_node : nodes 0 ≢ None
  first_node none =
      none-some _ (sym none ∙ body_is ns ids numbers (record { root = root; numbering = num; wide = wide }) 0 (slice_get_within ids 0 root num.first))

  are_marked : AreMarked n nodes has
  are_marked = record {
    rows = row_at_is n plan (length ids) rows plan_low;
    once = once n plan (length ids) rows plan_low;
    sound = sound;
    whole = closed_is_whole n nodes has outline.version good closed;
  }

  are_on_demand : AreOnDemand n nodes
  are_on_demand = derived_is_on_demand n nodes has outline.version good first_node are_marked

  is_written : IsWrittenOnDemand p t places routes nodes n
  is_written = record {
    form = well_formed;
    version = outline.version;
    fields = outline.fields;
    names = f.names;
    owners = f.owners;
    switches = outline.switches;
    links = outline.links;
    ports = outline.ports;
    hops = λ a b la lb apart. f.next_is a b (subst (λ s. a < s) (sym f.switches) la) (subst (λ s. b < s) (sym f.switches) lb) apart;
    hop_once = f.hop_once;
    rows = are_on_demand;
  }

  pub made_on_demand : Faithful p t places n
  made_on_demand = written_on_demand p t places routes g.ranks ns root ids (slice_index numbers) n ready.input bare_diagram num rises is_written
