-- Tables that are written on demand are faithful.
use Rattle.std.proofs.Common.{◌≡◌, ◌≢◌, ℕ, zero, suc, ◌<◌, ◌≤◌, inl, inr, List, [], ◌∷◌, length, map, Option, Some, None, refl, sym, ap, subst, ◌∙◌, arith}
use Rattle.std.specs.Prelude.{slice_get, slice_index, IfSome, unwrap_or, option_map}
use Rattle.std.proofs.lemmas.List.{length-map}
use Rattle.std.proofs.lemmas.Option.{none-some, slice_get_within, slice_get-map, get_or_from_slice_get}
use Rattle.snap_core.specs.declared.policy.Test.{Test}
use Rattle.snap_core.specs.declared.policy.Update.{Update}
use Rattle.snap_core.specs.declared.program.Program.{Program}
use Rattle.snap_core.specs.Fields.{count}
use Rattle.snap_dep.specs.Ranks.{IsRank}
use Rattle.snap_topology.specs.declared.topology.Topology.{Topology}
use Rattle.snap_topology.specs.Walks.{Linked, IsNext}
use Rattle.snap_topology.specs.Tables.{Table}
use Rattle.snap_diagrams.specs.declared.node.Node.{Node}
use Rattle.snap_diagrams.specs.declared.leaf.Leaf.{Leaf}
use Rattle.snap_rows.specs.declared.tables.ArrayAt.{ArrayAt}
use Rattle.snap_rows.specs.declared.tables.Tables.{Tables}
use Rattle.snap_rows.specs.declared.tables.Row.{Row}
use Rattle.snap_rows.specs.declared.tables.Row.TheVariants as row
use Rattle.snap_rows.specs.declared.tables.Row.TheVariants.{State, Last}
use Rattle.snap_rows.specs.declared.tables.Stage.{Stage as LeafStage}
use Rattle.snap_rows.specs.Entries.{Parts, node_of, owner_of, rank_of, var_of, next}
use Rattle.snap_rows.specs.Form.{switch_count, array_count, IsHopWellFormed}
use Rattle.snap_rows.specs.Rules.{IsValid, MayFollow}
use Rattle.snap_rows.proofs.Rows.{All-get}
use Rattle.snap_rows.proofs.Later.{var_array}
use Rattle.snap_faithful.specs.Faithful.{HasShape}
use Rattle.snap_faithful.specs.Planned.{AreNodes, AreHops}
use Rattle.snap_faithful.specs.Shown.{IsNumbering, Shows}
use Rattle.snap_faithful.specs.Generated.{numbered_nodes, AreInputs, IsBareDiagram}
use Rattle.snap_faithful.proofs.Generating.{of_node, node_at, nodes_good}
use Rattle.snap_faithful.proofs.Showing.{shown_mean, shown_live}
use Rattle.snap_faithful.proofs.Far.{far, next_nearer}
use Rattle.snap_faithful.specs.StagedFacts.{MayCome, GoesByRank}
use Rattle.snap_faithful.specs.OnDemand.{stages_of, staged, place_of, HasNodes}
use Rattle.snap_faithful.specs.Written.{RisesFrom, HasRisingLeaves, IsWrittenOnDemand, WrittenOnDemandIsFaithful}
use Rattle.snap_faithful.proofs.Stages.{RiseFrom, stages_few}
use Rattle.snap_faithful.proofs.Plain.{plain, unstaged, plain_is, plain_from, staged_meaning, staged_live}
use Rattle.snap_faithful.proofs.StagedPlanning.{on_demand_is_valid, node_back}
use Rattle.snap_faithful.proofs.Shown.{unstaged_staged, all_shown}
use Rattle.snap_faithful.proofs.Fronts.{front_of, front_is, is_front}
use Rattle.snap_faithful.proofs.StagedWhole.{staged_facts_make}

-- ---- the same arrays with ranks
abbrev with_ranks : List ArrayAt → List ℕ → List ArrayAt
with_ranks [] rs = []
with_ranks (a ∷ xs) [] = record a { rank = 0 } ∷ with_ranks xs []
with_ranks (a ∷ xs) (r ∷ rs) = record a { rank = r } ∷ with_ranks xs rs

as_many_ranks : (xs : List ArrayAt) (rs : List ℕ) → length (with_ranks xs rs) ≡ length xs
as_many_ranks [] rs = refl
as_many_ranks (a ∷ xs) [] = ap suc (as_many_ranks xs [])
as_many_ranks (a ∷ xs) (r ∷ rs) = ap suc (as_many_ranks xs rs)

rank_with : (xs : List ArrayAt) (rs : List ℕ) (v : ℕ) → length rs ≡ length xs → slice_index rs v ≡ unwrap_or (option_map (λ (a : ArrayAt). a.rank) (slice_get (with_ranks xs rs) v)) 0
rank_with [] [] v e = refl
rank_with [] (r ∷ rs) v e = absurd (omega (arith, e))
rank_with (a ∷ xs) [] v e = absurd (omega (arith, e))
rank_with (a ∷ xs) (r ∷ rs) zero e = refl
rank_with (a ∷ xs) (r ∷ rs) (suc v) e = rank_with xs rs v (omega (arith, e))

abbrev ranked : Tables → List ℕ → Tables
ranked t rs = record t { arrays = with_ranks t.arrays rs }

module _ (p : Program) (t : Topology) (places : List ℕ) (routes : Table) (ranks : List ℕ) (ns : List (Node Leaf)) (root : ℕ) (ids : List ℕ) (number : ℕ → ℕ) (n : Tables)
    (input : AreInputs p t places routes ranks) (bare : IsBareDiagram p ranks ns root) (num : IsNumbering ns root ids number)
    (names : map (λ (a : ArrayAt). a.name) n.arrays ≡ p.arrays) where
  abbrev nodes : ℕ → Option Row
  nodes = numbered_nodes ns ids number

  as_many : array_count n ≡ length p.arrays
  as_many = sym (length-map n.arrays (λ (a : ArrayAt). a.name)) ∙ ap length names

  rank_is : (v : ℕ) → slice_index ranks v ≡ rank_of (ranked n ranks) v
  rank_is v = rank_with n.arrays ranks v (input.as_many ∙ sym as_many)

  numbered_low : (m : ℕ) (b : Row) → nodes m ≡ Some b → m < length ids
  numbered_low m b e = let o = of_node p ranks ns root ids number bare num m b e in slice_get_within ids m o.id o.at

  are_nodes : AreNodes (ranked n ranks) nodes (front_of nodes (length ids))
  are_nodes = nodes_good p ranks ns root ids number bare num (ranked n ranks) rank_is (as_many_ranks n.arrays ranks ∙ as_many) (front_of nodes (length ids)) (front_is nodes (length ids) numbered_low) (is_front nodes (length ids))

  pub has_nodes : HasNodes n nodes
  has_nodes = record {
    kinds = are_nodes.kinds;
    arrays = λ i test y z e. (let l = are_nodes.arrays i test y z e in let c = as_many_ranks n.arrays ranks in omega (arith, l, c));
    ways = are_nodes.ways;
  }

  module _ (rising : HasRisingLeaves ranks (length p.arrays) (numbered_nodes ns ids number)) (w : IsWrittenOnDemand p t places routes (numbered_nodes ns ids number) n) where
    -- ---- next hops
    same_count : switch_count n ≡ length t.switches
    same_count = ap length w.switches

    next_is : (a b : ℕ) → a < switch_count n → b < switch_count n → a ≢ b → IsNext (Linked t.links) a b (next n a b)
    next_is a b la lb apart =
        let la' = subst (λ s. a < s) same_count la in let lb' = subst (λ s. b < s) same_count lb in
        subst (IsNext (Linked t.links) a b) (sym (w.hops a b la' lb' apart)) (input.paths.nexts a b la' lb' apart)

    are_hops : AreHops n
    are_hops = record {
      distance = far routes (length t.switches);
      each = λ i h e. (let f = All-get (IsHopWellFormed n) n.hops i h w.form.hops e in let o = w.hop_once i h e in (f.from, f.target, o.0, o.1));
      linked = λ a b la lb apart. subst (λ l. Linked l a (next n a b)) (sym w.links) (next_is a b la lb apart).neighbour;
      nearer = λ a b la lb apart.
          (let r = next_nearer t input.well_formed routes input.paths a b (next n a b) (subst (λ s. a < s) same_count la) (subst (λ s. b < s) same_count lb) apart (next_is a b la lb apart) in
          (subst (λ s. next n a b < s) (sym same_count) r.0, r.1));
    }

    valid : IsValid n
    valid = on_demand_is_valid n nodes w.form w.version has_nodes are_hops w.rows

    shape : HasShape p t places n
    shape = record {
      form = w.form;
      valid = valid;
      fields = w.fields;
      names = w.names;
      owners = w.owners;
      ranks = λ two. (let one = w.version in absurd (omega (arith, one, two)));
      switches = w.switches;
      links = w.links;
      ports = w.ports;
      hops = λ a b la lb apart. next_is a b (subst (λ s. a < s) (sym same_count) la) (subst (λ s. b < s) (sym same_count) lb) apart;
    }

    -- ---- meaning
    back : (i : ℕ) (b : Row) → node_of n i ≡ Some b → (c : Row) × (nodes i ≡ Some c) × (b ≡ staged (place_of n) c)
    back i b e = node_back n nodes w.form w.version has_nodes are_hops w.rows i b e

    shows : Shows ns ids number (plain n)
    shows = record {
      each = λ i b e.
          (let f = plain_from n i b e in let g = back i f.0 f.1 in
          let same : g.0 ≡ b = sym (unstaged_staged (place_of n) g.0 (has_nodes.kinds i g.0 g.1)) ∙ sym (ap unstaged g.2) ∙ f.2 in
          of_node p ranks ns root ids number bare num i b (g.1 ∙ ap Some same));
      all = λ j c e i b o.
          (let f = plain_from n j c e in
          let node : nodes i ≡ Some b = node_at p ranks ns root ids number bare num i o.id o.node o.at o.is ∙ ap Some (sym o.row) in
          plain_is n i (staged (place_of n) b) (all_shown n nodes w.form w.version has_nodes are_hops w.rows are_nodes.parents j f.0 f.1 i b node)
          ∙ ap Some (unstaged_staged (place_of n) b (has_nodes.kinds i b node)));
    }

    -- ---- ranks
    low : (v x : ℕ) → owner_of n v ≡ Some x → v < length p.arrays
    low v x e = by (slice_get n.arrays v) refl e
      where
        by : (o : Option ArrayAt) → slice_get n.arrays v ≡ o → option_map (λ (a : ArrayAt). a.at) o ≡ Some x → v < length p.arrays
        by None f g = absurd (none-some x g)
        by (Some a) f g = let l = slice_get_within n.arrays v a f in let c = as_many in omega (arith, l, c)

    place_is : (v x : ℕ) → owner_of n v ≡ Some x → slice_index places v ≡ x
    place_is v x e = sym (ap (λ l. slice_index l v) w.owners) ∙ get_or_from_slice_get (map (λ (a : ArrayAt). a.at) n.arrays) v x 0 (slice_get-map (λ (a : ArrayAt). a.at) n.arrays v ∙ e)

    may_come : (i r v : ℕ) → slice_index ranks v ≡ r → IfSome (nodes i) (MayFollow (ranked n ranks) (rank_of (ranked n ranks) v)) → IfSome (node_of n i) (MayCome (slice_index ranks) r)
    may_come i r v same follow = by (node_of n i) refl
      where
        of : (c : Row) → MayFollow (ranked n ranks) (rank_of (ranked n ranks) v) c → MayCome (slice_index ranks) r (staged (place_of n) c)
        of (row.Field test y z) f = f
        of (State test y z) f = let a = rank_is v in let b = rank_is (var_of test) in omega (arith, a, b, f, same)
        of (Last us os) f = tt
        of (row.Go x) f = tt
        of (row.Leaf ss os) f = tt
        of row.Stop f = tt

        by : (o : Option Row) → node_of n i ≡ o → IfSome o (MayCome (slice_index ranks) r)
        by None e = tt
        by (Some b) e =
            let g = back i b e in
            subst (MayCome (slice_index ranks) r) (sym g.2) (of g.0 (subst (λ o. IfSome o (MayFollow (ranked n ranks) (rank_of (ranked n ranks) v))) g.1 follow))

    module _ (order : List ℕ) (is_rank : IsRank p.body (length p.arrays) order) where
      together_at : (u v : ℕ) → u < length p.arrays → v < length p.arrays → slice_index ranks u ≡ slice_index ranks v → place_of n u ≡ place_of n v
      together_at u v lu lv e = at u lu ∙ input.together u v lu lv e ∙ sym (at v lv)
        where
          at : (v : ℕ) → v < length p.arrays → place_of n v ≡ slice_index places v
          at v l = by (owner_of n v) refl
            where
              by : (o : Option ℕ) → owner_of n v ≡ o → unwrap_or o 0 ≡ slice_index places v
              by None e = let a = var_array n v (let c = as_many in omega (arith, l, c)) in absurd (none-some a.0.at (sym e ∙ ap (option_map (λ (a : ArrayAt). a.at)) a.1))
              by (Some x) e = sym (place_is v x e)

      rises : (r : ℕ) (us : List Update) → RisesFrom ranks (length p.arrays) r us → RiseFrom (place_of n) (length order) (length p.arrays) (slice_index ranks) together_at r us
      rises r [] h = tt
      rises r (u ∷ us) h = (h.0, (input.ranked order is_rank).below u.var h.1, h.1, rises (slice_index ranks u.var) us h.2)

      few_stages : (i : ℕ) (ss : List LeafStage) (os : List Parts) → node_of n i ≡ Some (row.Leaf ss os) → length ss ≤ length order
      few_stages i ss os e = by (back i (row.Leaf ss os) e).0 (back i (row.Leaf ss os) e).1 (back i (row.Leaf ss os) e).2
        where
          by : (c : Row) → nodes i ≡ Some c → row.Leaf ss os ≡ staged (place_of n) c → length ss ≤ length order
          by (Last us os') node is =
              let same : ss ≡ stages_of (place_of n) us = cc in
              let few = stages_few (place_of n) (length order) (length p.arrays) (slice_index ranks) together_at 0 us (omega arith) (rises 0 us (rising i us os' node)) in
              let long = ap length same in omega (arith, few, long)
          by (row.Field test y z) node is = absurd (cc)
          by (State test y z) node is = absurd (cc)
          by (row.Go x) node is = absurd (has_nodes.kinds i (row.Go x) node)
          by (row.Leaf ss' os') node is = absurd (has_nodes.kinds i (row.Leaf ss' os') node)
          by row.Stop node is = absurd (has_nodes.kinds i row.Stop node)

      by_rank : GoesByRank n (length order) (slice_index ranks)
      by_rank = record {
        below = λ v x e. (input.ranked order is_rank).below v (low v x e);
        order = λ i y z test e. by i y z test (back i (State test y z) e).0 (back i (State test y z) e).1 (back i (State test y z) e).2;
        together = λ u v x y e f same. sym (place_is u x e) ∙ input.together u v (low u x e) (low v y f) same ∙ place_is v y f;
        stages = few_stages;
      }
        where
          by : (i y z : ℕ) (test : Test) (c : Row) → nodes i ≡ Some c → State test y z ≡ staged (place_of n) c
              → IfSome (node_of n y) (MayCome (slice_index ranks) (slice_index ranks (var_of test))) × IfSome (node_of n z) (MayCome (slice_index ranks) (slice_index ranks (var_of test)))
          by i y z test (State test' y' z') node is =
              let st : test ≡ test' = cc in
              let sy : y ≡ y' = cc in
              let sz : z ≡ z' = cc in
              let node' : nodes i ≡ Some (State test y z) = node ∙ ap Some (sym is) in (
                may_come y (slice_index ranks (var_of test)) (var_of test) refl (are_nodes.order i y y z test node' (inl refl)),
                may_come z (slice_index ranks (var_of test)) (var_of test) refl (are_nodes.order i z y z test node' (inr refl)),
              )
          by i y z test (row.Field test' y' z') node is = absurd (cc)
          by i y z test (Last us os) node is = absurd (cc)
          by i y z test (row.Go x) node is = absurd (has_nodes.kinds i (row.Go x) node)
          by i y z test (row.Leaf ss os) node is = absurd (has_nodes.kinds i (row.Leaf ss os) node)
          by i y z test row.Stop node is = absurd (has_nodes.kinds i row.Stop node)

pub written_on_demand : WrittenOnDemandIsFaithful
written_on_demand p t places routes ranks ns root ids number n input bare num rising w =
    let shows' = shows p t places routes ranks ns root ids number n input bare num w.names rising w in
    staged_facts_make p t places routes n (record {
      fits = input.fits;
      well_formed = input.well_formed;
      paths = input.paths;
      shape = shape p t places routes ranks ns root ids number n input bare num w.names rising w;
      version = w.version;
      meaning = staged_meaning p.body (count p.fields) n (shown_mean p ns root ids number (plain n) bare.arena num shows' bare.outcome);
      ranked = λ order is_rank. (slice_index ranks, by_rank p t places routes ranks ns root ids number n input bare num w.names rising w order is_rank);
      never = input.never;
      small = input.small;
      live_and_reduced = staged_live p n (shown_live p ns root ids number (plain n) bare.arena num shows' bare.live bare.bare);
    })
