-- Written tables are faithful.
use Rattle.std.proofs.Common.{◌≡◌, ◌≢◌, ℕ, ◌<◌, ◌≤◌, ◌⊎◌, inl, inr, ⊎_elim, Bool, true, false, cond, List, length, map, get_or, Option, Some, None, refl, sym, ap, subst, ◌∙◌, arith}
use Rattle.std.specs.Prelude.{slice_get, slice_index, nat_eq, nat_lt, IfSome, option_map, option_and_then, unwrap_or}
use Rattle.std.specs.Ordering.{nat_cmp, ordering_then}
use Rattle.std.specs.declared.cmp.Ordering.{Ordering}
use Rattle.std.specs.declared.cmp.Ordering.TheVariants.{Less, Equal as Same, Greater}
use Rattle.std.proofs.lemmas.Bool.{eqb-true, ltb-true, false≢true, cases_lt}
use Rattle.std.proofs.lemmas.List.{length-map}
use Rattle.std.proofs.lemmas.Option.{none-some, same_Some, slice_get_within, slice_get-get_or, slice_get-map, get_or_from_slice_get, unwrap_or-slice_get}
use Rattle.snap_core.specs.declared.policy.Test.{Test}
use Rattle.snap_core.specs.declared.policy.Test.TheVariants.{Value, Equal, State as StateTest}
use Rattle.snap_core.specs.declared.program.Program.{Program}
use Rattle.snap_core.specs.Fields.{count}
use Rattle.snap_dep.specs.Dependencies.{Tied}
use Rattle.snap_dep.specs.Ranks.{IsRank, IsGroup}
use Rattle.snap_dep.proofs.Taking.{begun_once}
use Rattle.snap_dep.proofs.OneRank.{has_one}
use Rattle.snap_dep.proofs.Below.{UsesBelow-fits}
use Rattle.snap_dep.proofs.Chains.{tied_back}
use Rattle.snap_topology.specs.declared.topology.Topology.{Topology}
use Rattle.snap_topology.specs.Walks.{Linked, IsNext}
use Rattle.snap_topology.specs.Tables.{Table}
use Rattle.snap_diagrams.specs.declared.node.Node.{Node}
use Rattle.snap_diagrams.specs.declared.node.Node.TheVariants as node
use Rattle.snap_diagrams.specs.declared.leaf.Leaf.{Leaf}
use Rattle.snap_diagrams.specs.declared.leaf.Leaf.TheVariants.{Race, Go as Goes}
use Rattle.snap_diagrams.specs.Bounds.{IsIn}
use Rattle.snap_diagrams.specs.Diagrams.{Asks, diagram, IsNodeOf}
use Rattle.snap_diagrams.specs.Order.{test_cmp, Above, IsOrdered}
use Rattle.snap_diagrams.proofs.Shared as shared
use Rattle.snap_rows.specs.declared.tables.ArrayAt.{ArrayAt}
use Rattle.snap_rows.specs.declared.tables.Tables.{Tables}
use Rattle.snap_rows.specs.declared.tables.Row.{Row}
use Rattle.snap_rows.specs.declared.tables.Row.TheVariants.{State}
use Rattle.snap_rows.specs.Entries.{next, rank_of, rank_at, ranks, var_of}
use Rattle.snap_rows.specs.Form.{switch_count, array_count, IsHopWellFormed}
use Rattle.snap_rows.specs.Rules.{IsValid, MayFollow}
use Rattle.snap_rows.proofs.Rows.{All-get}
use Rattle.snap_rows.proofs.Own.{rank_entry}
use Rattle.snap_rows.proofs.Later.{var_array, rank_some}
use Rattle.snap_faithful.specs.Faithful.{HasShape}
use Rattle.snap_rows.specs.Leads.{IsNumberAfter}
use Rattle.snap_faithful.specs.Planned.{IsNodeKind, IsFront, AreNodes, ArePlaced, AreHops}
use Rattle.snap_faithful.specs.Shown as shown
use Rattle.snap_faithful.specs.Shown.{row_of, Leads, yes_way, no_way, IsNumbering, IsOf, Shows}
use Rattle.snap_faithful.specs.Generated.{numbered_nodes, AreInputs, IsBareDiagram, IsWritten, WrittenIsFaithful}
use Rattle.snap_faithful.proofs.Planning.{planned_is_valid, node_back, all_shown}
use Rattle.snap_faithful.proofs.Showing.{shown_mean, shown_live}
use Rattle.snap_faithful.proofs.Far.{far, next_nearer, ranks_few}
use Rattle.snap_faithful.proofs.Whole.{facts_make}

-- ---- the order of tests
is_less : Ordering → Bool
is_less Less = true
is_less Same = false
is_less Greater = false

rank_le : (r q : ℕ) (rest : Ordering) → ordering_then (nat_cmp r q) rest ≡ Less → r ≤ q
unfolding is_less
rank_le r q rest e = by (nat_lt r q) refl (nat_eq r q) refl
  where
    by : (b : Bool) → nat_lt r q ≡ b → (c : Bool) → nat_eq r q ≡ c → r ≤ q
    by true f c g = let l = ltb-true r q f in omega (arith, l)
    by false f true g = let l = eqb-true r q g in omega (arith, l)
    by false f false g = absurd (false≢true (sym (ap is_less (ap (λ b. ordering_then (cond b Less (cond (nat_eq r q) Same Greater)) rest) f ∙ ap (λ c. ordering_then (cond c Same Greater) rest) g)) ∙ ap is_less e))

-- ---- a node of a number
module _ (p : Program) (ranks_list : List ℕ) (ns : List (Node Leaf)) (top : ℕ) (ids : List ℕ) (number : ℕ → ℕ) (d : IsBareDiagram p ranks_list ns top) (num : IsNumbering ns top ids number) where
  pub of_node : (i : ℕ) (b : Row) → numbered_nodes ns ids number i ≡ Some b → IsOf ns ids number i b
  of_node i b e = by (slice_get ids i) refl
    where
      inner : (x : ℕ) → slice_get ids i ≡ Some x → (o : Option (Node Leaf)) → slice_get ns x ≡ o → option_map (row_of number) o ≡ Some b → IsOf ns ids number i b
      inner x at None f g = absurd (none-some b g)
      inner x at (Some n) f g = record { id = x; node = n; at = at; is = f; row = sym (same_Some (row_of number n) b g) }

      by : (o : Option ℕ) → slice_get ids i ≡ o → IsOf ns ids number i b
      by None f = absurd (none-some b (sym (ap (option_and_then (λ d. option_map (row_of number) (slice_get ns d))) f) ∙ e))
      by (Some x) f = inner x f (slice_get ns x) refl (sym (ap (option_and_then (λ d. option_map (row_of number) (slice_get ns d))) f) ∙ e)

  pub node_at : (i x : ℕ) (n : Node Leaf) → slice_get ids i ≡ Some x → slice_get ns x ≡ Some n → numbered_nodes ns ids number i ≡ Some (row_of number n)
  node_at i x n at is = ap (option_and_then (λ d. option_map (row_of number) (slice_get ns d))) at ∙ ap (option_map (row_of number)) is

  a_node : (x : ℕ) → x < length ns → (n : Node Leaf) × (slice_get ns x ≡ Some n)
  a_node x l = (get_or ns x (node.Leaf Race), slice_get-get_or ns x (node.Leaf Race) l)

  some_node : (i x : ℕ) → slice_get ids i ≡ Some x → numbered_nodes ns ids number i ≢ None
  some_node i x at none = let n = a_node x (num.nodes i x at) in none-some (row_of number n.0) (sym none ∙ node_at i x n.0 at n.1)

  pub shape : (x : ℕ) (n : Node Leaf) → slice_get ns x ≡ Some n → IsNodeOf ns x n
  shape x n is = shared.node_of ns x n is (d.arena.lower x n is)

  -- what holds of the diagrams below the root
  pub record Below (x : ℕ) : Type 0 where
    pub ordered : IsOrdered ranks_list (diagram ns x)
    pub bounds : IsIn (record { comps = count p.fields; arrays = length p.arrays }) (diagram ns x)
    pub at : slice_get ids (number x) ≡ Some x

  below_yes : (x y z : ℕ) (t : Test) → Below x → slice_get ns x ≡ Some (node.Ask t y z) → Below y
  below_yes x y z t b is =
      let e = (shape x (node.Ask t y z) is).0 in
      let o : IsOrdered ranks_list (Asks t (diagram ns y) (diagram ns z)) = subst (IsOrdered ranks_list) e b.ordered in
      let i : IsIn (record { comps = count p.fields; arrays = length p.arrays }) (Asks t (diagram ns y) (diagram ns z)) = subst (IsIn (record { comps = count p.fields; arrays = length p.arrays })) e b.bounds in
      record { ordered = o.2; bounds = i.1; at = (num.yes_side (number x) x y z t b.at is).1 }

  below_no : (x y z : ℕ) (t : Test) → Below x → slice_get ns x ≡ Some (node.Ask t y z) → Below z
  below_no x y z t b is =
      let e = (shape x (node.Ask t y z) is).0 in
      let o : IsOrdered ranks_list (Asks t (diagram ns y) (diagram ns z)) = subst (IsOrdered ranks_list) e b.ordered in
      let i : IsIn (record { comps = count p.fields; arrays = length p.arrays }) (Asks t (diagram ns y) (diagram ns z)) = subst (IsIn (record { comps = count p.fields; arrays = length p.arrays })) e b.bounds in
      record { ordered = o.3; bounds = i.2; at = (num.no_side (number x) x y z t b.at is).1 }

  pub below : {x : ℕ} → Leads ns top x → Below x
  below shown.here = record { ordered = d.ordered; bounds = d.bounds; at = subst (λ i. slice_get ids i ≡ Some top) (sym (num.own 0 top num.first)) num.first }
  below (yes_way {d = x} {y = y} {z = z} {t = t} chain is) = below_yes x y z t (below chain) is
  below (no_way {d = x} {y = y} {z = z} {t = t} chain is) = below_no x y z t (below chain) is

  ask_way : (t : Test) (y z : ℕ) (x : ℕ) → IsNumberAfter (row_of number (node.Ask t y z)) x → (x ≡ number y) ⊎ (x ≡ number z)
  ask_way (Value c n) y z x w = w
  ask_way (Equal a b n) y z x w = w
  ask_way (StateTest v ix u) y z x w = w

  way_ask : (t : Test) (y z : ℕ) (x : ℕ) → (x ≡ number y) ⊎ (x ≡ number z) → IsNumberAfter (row_of number (node.Ask t y z)) x
  way_ask (Value c n) y z x w = w
  way_ask (Equal a b n) y z x w = w
  way_ask (StateTest v ix u) y z x w = w

  leaf_way : (l : Leaf) (x : ℕ) → IsNumberAfter (row_of number (node.Leaf l)) x → ⊥
  leaf_way Race x w = w
  leaf_way (Goes g) x w = w

  kind_of : (n : Node Leaf) → IsNodeKind (row_of number n)
  kind_of (node.Leaf Race) = tt
  kind_of (node.Leaf (Goes g)) = tt
  kind_of (node.Ask (Value c n) y z) = tt
  kind_of (node.Ask (Equal a b n) y z) = tt
  kind_of (node.Ask (StateTest v ix u) y z) = tt

  -- a state row's node is a test of an array
  state_node : (t : Test) (a b : ℕ) (n : Node Leaf) → State t a b ≡ row_of number n → (v : ℕ) × (ix : _) × (u : _) × (y : ℕ) × (z : ℕ) × (n ≡ node.Ask (StateTest v ix u) y z) × (t ≡ StateTest v ix u)
  state_node t a b (node.Leaf Race) e = absurd (cc)
  state_node t a b (node.Leaf (Goes g)) e = absurd (cc)
  state_node t a b (node.Ask (Value c n) y z) e = absurd (cc)
  state_node t a b (node.Ask (Equal l r n) y z) e = absurd (cc)
  state_node t a b (node.Ask (StateTest v ix u) y z) e = (v, ix, u, y, z, refl, cc)

  module _ (t : Tables) (same_ranks : (v : ℕ) → slice_index ranks_list v ≡ rank_of t v) (arrays : array_count t ≡ length p.arrays) where
    -- what comes above a state test
    follows : (v : ℕ) (ix : _) (u : _) (x : ℕ) (n : Node Leaf) → slice_get ns x ≡ Some n → Above ranks_list (StateTest v ix u) (diagram ns x) → MayFollow t (rank_of t v) (row_of number n)
    unfolding is_less
    follows v ix u x (node.Leaf Race) is a = tt
    follows v ix u x (node.Leaf (Goes g)) is a = tt
    follows v ix u x (node.Ask (Value c n) y z) is a =
        absurd (false≢true (ap is_less (subst (Above ranks_list (StateTest v ix u)) (shape x (node.Ask (Value c n) y z) is).0 a)))
    follows v ix u x (node.Ask (Equal l r n) y z) is a =
        absurd (false≢true (ap is_less (subst (Above ranks_list (StateTest v ix u)) (shape x (node.Ask (Equal l r n) y z) is).0 a)))
    follows v ix u x (node.Ask (StateTest w iy o) y z) is a =
        let less : test_cmp ranks_list (StateTest v ix u) (StateTest w iy o) ≡ Less = subst (Above ranks_list (StateTest v ix u)) (shape x (node.Ask (StateTest w iy o) y z) is).0 a in
        let le : slice_index ranks_list v ≤ slice_index ranks_list w = rank_le (slice_index ranks_list v) (slice_index ranks_list w) _ less in
        let ev = same_ranks v in let ew = same_ranks w in
        omega (arith, le, ev, ew)

    follows_at : (v : ℕ) (ix : _) (u : _) (i x : ℕ) → slice_get ids i ≡ Some x → Above ranks_list (StateTest v ix u) (diagram ns x) → IfSome (numbered_nodes ns ids number i) (MayFollow t (rank_of t v))
    follows_at v ix u i x at a = let n = a_node x (num.nodes i x at) in subst (λ o. IfSome o (MayFollow t (rank_of t v))) (sym (node_at i x n.0 at n.1)) (follows v ix u x n.0 n.1 a)

    ordered_ways : (v : ℕ) (ix : _) (u : _) (i x y z k : ℕ) → slice_get ids i ≡ Some x → slice_get ns x ≡ Some (node.Ask (StateTest v ix u) y z) → (k ≡ number y) ⊎ (k ≡ number z) → IfSome (numbered_nodes ns ids number k) (MayFollow t (rank_of t v))
    ordered_ways v ix u i x y z k at is way =
        let b = below (num.reached i x at) in
        let o : IsOrdered ranks_list (Asks (StateTest v ix u) (diagram ns y) (diagram ns z)) = subst (IsOrdered ranks_list) (shape x (node.Ask (StateTest v ix u) y z) is).0 b.ordered in
        ⊎_elim
        (λ e. subst (λ k. IfSome (numbered_nodes ns ids number k) (MayFollow t (rank_of t v))) (sym e) (follows_at v ix u (number y) y (num.yes_side i x y z (StateTest v ix u) at is).1 o.0))
        (λ e. subst (λ k. IfSome (numbered_nodes ns ids number k) (MayFollow t (rank_of t v))) (sym e) (follows_at v ix u (number z) z (num.no_side i x y z (StateTest v ix u) at is).1 o.1))
        way

    parent_of : (i x : ℕ) → slice_get ids i ≡ Some x → Leads ns top x → (i ≡ 0) ⊎ ((m : ℕ) × (c : Row) × (numbered_nodes ns ids number m ≡ Some c) × IsNumberAfter c i)
    parent_of i x at shown.here = inl (sym (num.own i top at) ∙ num.own 0 top num.first)
    parent_of i x at (yes_way {d = w} {y = y} {z = z} {t = test} chain is) = inr (number w, row_of number (node.Ask test y z), node_at (number w) w (node.Ask test y z) (below chain).at is, way_ask test y z i (inl (sym (num.own i x at))))
    parent_of i x at (no_way {d = w} {y = y} {z = z} {t = test} chain is) = inr (number w, row_of number (node.Ask test y z), node_at (number w) w (node.Ask test y z) (below chain).at is, way_ask test y z i (inr (sym (num.own i x at))))

    ways_up : (i k x : ℕ) (n : Node Leaf) → slice_get ids i ≡ Some x → slice_get ns x ≡ Some n → IsNumberAfter (row_of number n) k → (i < k) × (numbered_nodes ns ids number k ≢ None)
    ways_up i k x (node.Leaf l) at is way = absurd (leaf_way l k way)
    ways_up i k x (node.Ask test y z) at is way = ⊎_elim
        (λ e. (let s = num.yes_side i x y z test at is in (subst (λ k. i < k) (sym e) s.0, some_node k y (subst (λ k. slice_get ids k ≡ Some y) (sym e) s.1))))
        (λ e. (let s = num.no_side i x y z test at is in (subst (λ k. i < k) (sym e) s.0, some_node k z (subst (λ k. slice_get ids k ≡ Some z) (sym e) s.1))))
        (ask_way test y z k way)

    var_low : (v : ℕ) (ix : _) (u : _) (i x y z : ℕ) → slice_get ids i ≡ Some x → slice_get ns x ≡ Some (node.Ask (StateTest v ix u) y z) → v < array_count t
    var_low v ix u i x y z at is =
        let b = below (num.reached i x at) in
        let inside : IsIn (record { comps = count p.fields; arrays = length p.arrays }) (Asks (StateTest v ix u) (diagram ns y) (diagram ns z)) = subst (IsIn (record { comps = count p.fields; arrays = length p.arrays })) (shape x (node.Ask (StateTest v ix u) y z) is).0 b.bounds in
        let l = inside.0.0 in omega (arith, l, arrays)

    pub nodes_good : (front : ℕ → Bool) → ((i : ℕ) → IsFront (numbered_nodes ns ids number) i → front i ≡ true) → ((i : ℕ) → front i ≡ true → IsFront (numbered_nodes ns ids number) i) → AreNodes t (numbered_nodes ns ids number) front
    nodes_good front to from = record {
      root = some_node 0 top num.first;
      kinds = λ i b e. (let o = of_node i b e in subst IsNodeKind (sym o.row) (kind_of o.node));
      arrays = λ i test y z e.
          (let o = of_node i (State test y z) e in let s = state_node test y z o.node o.row in
          subst (λ (x : Test). var_of x < array_count t) (sym s.6) (var_low s.0 s.1 s.2 i o.id s.3 s.4 o.at (o.is ∙ ap Some s.5)));
      ways = λ i x b e way. (let o = of_node i b e in ways_up i x o.id o.node o.at o.is (subst (λ b. IsNumberAfter b x) o.row way));
      order = λ i x y z test e way.
          (let o = of_node i (State test y z) e in let s = state_node test y z o.node o.row in
          subst (λ (u : Test). IfSome (numbered_nodes ns ids number x) (MayFollow t (rank_of t (var_of u)))) (sym s.6)
          (ordered_ways s.0 s.1 s.2 i o.id s.3 s.4 x o.at (o.is ∙ ap Some s.5) (ask_way (StateTest s.0 s.1 s.2) s.3 s.4 x (subst (λ b. IsNumberAfter b x) (o.row ∙ ap (row_of number) s.5) way))));
      parents = λ i b e. (let o = of_node i b e in parent_of i o.id o.at (num.reached i o.id o.at));
      is_front = to;
      front_is = from;
    }

-- ---- lists of arrays
module _ (p : Program) (t : Topology) (places : List ℕ) (routes : Table) (ranks_list : List ℕ) (nodes : ℕ → Option Row) (front : ℕ → Bool) (n : Tables) (input : AreInputs p t places routes ranks_list) (w : IsWritten p t places routes ranks_list nodes front n) where
  as_many : array_count n ≡ length p.arrays
  as_many = sym (length-map n.arrays (λ (a : ArrayAt). a.name)) ∙ ap length w.names

  same_ranks : (v : ℕ) → slice_index ranks_list v ≡ rank_of n v
  same_ranks v = sym (
      ap (λ o. unwrap_or o 0) (sym (slice_get-map (λ (a : ArrayAt). a.rank) n.arrays v))
      ∙ unwrap_or-slice_get (map (λ (a : ArrayAt). a.rank) n.arrays) v 0
      ∙ ap (λ l. slice_index l v) w.array_ranks)

  place_of : (v : ℕ) (a : ArrayAt) → slice_get n.arrays v ≡ Some a → slice_index places v ≡ a.at
  place_of v a e = sym (ap (λ l. slice_index l v) w.owners) ∙ get_or_from_slice_get (map (λ (a : ArrayAt). a.at) n.arrays) v a.at 0 (slice_get-map (λ (a : ArrayAt). a.at) n.arrays v ∙ ap (option_map (λ (a : ArrayAt). a.at)) e)

  rank_index : (v : ℕ) (a : ArrayAt) → slice_get n.arrays v ≡ Some a → slice_index ranks_list v ≡ a.rank
  rank_index v a e = sym (ap (λ l. slice_index l v) w.array_ranks) ∙ get_or_from_slice_get (map (λ (a : ArrayAt). a.rank) n.arrays) v a.rank 0 (slice_get-map (λ (a : ArrayAt). a.rank) n.arrays v ∙ ap (option_map (λ (a : ArrayAt). a.rank)) e)

  low : (v : ℕ) (a : ArrayAt) → slice_get n.arrays v ≡ Some a → v < length p.arrays
  low v a e = let l = slice_get_within n.arrays v a e in let c = as_many in omega (arith, l, c)

  owner_is : (v : ℕ) (a : ArrayAt) → slice_get n.arrays v ≡ Some a → rank_at n a.rank ≡ Some a.at
  owner_is v a e =
      let o = rank_some n.arrays v a.rank a e refl in
      let i = rank_entry n.arrays a.rank o.0 o.1 in
      let same : slice_index places i.place ≡ slice_index places v =
      input.together i.place v (low i.place i.entry i.is) (low v a e) (rank_index i.place i.entry i.is ∙ i.rank ∙ sym (rank_index v a e)) in
      o.1 ∙ ap Some (sym i.at ∙ sym (place_of i.place i.entry i.is) ∙ same ∙ place_of v a e)

  -- each rank below the number of groups is a variable's
  module _ (order : List ℕ) (rank : IsRank p.body (length p.arrays) order) where
    own_rank : (r : ℕ) → r < length order → slice_index ranks_list (slice_index order r) ≡ r
    own_rank r l = ⊎_elim
        (λ less. absurd (begun_once p.body (length p.arrays) order rank.steps q r 0 less l same))
        (λ more. ⊎_elim (λ eq. sym eq) (λ less. absurd (begun_once p.body (length p.arrays) order rank.steps r q 0 less ql (sym same))) (by_order r q more))
        (cases_lt q r)
      where
        g : ℕ
        g = slice_index order r

        group : IsGroup p.body (length p.arrays) (slice_index order r)
        group = (rank.steps r l).group

        q : ℕ
        q = slice_index ranks_list (slice_index order r)

        ql : slice_index ranks_list (slice_index order r) < length order
        ql = (input.ranked order rank).below (slice_index order r) group.below

        tied : Tied p.body (slice_index order (slice_index ranks_list (slice_index order r))) (slice_index order r)
        tied = (input.ranked order rank).group (slice_index order r) group.below

        other : IsGroup p.body (length p.arrays) (slice_index order (slice_index ranks_list (slice_index order r)))
        other = (rank.steps (slice_index ranks_list (slice_index order r)) ql).group

        same : slice_index order (slice_index ranks_list (slice_index order r)) ≡ slice_index order r
        same = let a = other.least (slice_index order r) group.below tied in let b = group.least (slice_index order (slice_index ranks_list (slice_index order r))) other.below (tied_back p.body _ _ tied) in omega (arith, a, b)

        by_order : (a b : ℕ) → a ≤ b → (a ≡ b) ⊎ (a < b)
        by_order a b le = ⊎_elim (λ x. inr x) (λ y. inl (omega (arith, le, y))) (cases_lt a b)

    every_rank : (r : ℕ) → r < length order → (x : ℕ) × (rank_at n r ≡ Some x)
    every_rank r l =
        let g = (rank.steps r l).group.below in
        let a = var_array n (slice_index order r) (let c = as_many in omega (arith, g, c)) in
        rank_some n.arrays (slice_index order r) r a.0 a.1 (a.2 ∙ sym (same_ranks (slice_index order r)) ∙ own_rank r l)

  one_order : (order : List ℕ) × IsRank p.body (length p.arrays) order
  one_order = (has_one p.body (length p.arrays) (UsesBelow-fits (count p.fields) (length p.arrays) p.body input.fits)).exists

  pub are_placed : ArePlaced n
  are_placed = record {
    owner = owner_is;
    every = λ r l.
        (let few : ranks n ≤ length one_order.0 = ranks_few n.arrays (length one_order.0)
        (λ i a e. (let b = (input.ranked one_order.0 one_order.1).below i (low i a e) in subst (λ x. x < length one_order.0) (rank_index i a e) b)) in
        every_rank one_order.0 one_order.1 r (omega (arith, l, few)));
  }

  same_count : switch_count n ≡ length t.switches
  same_count = ap length w.switches

  next_is : (a b : ℕ) → a < switch_count n → b < switch_count n → a ≢ b → IsNext (Linked t.links) a b (next n a b)
  next_is a b la lb apart =
      let la' = subst (λ s. a < s) same_count la in let lb' = subst (λ s. b < s) same_count lb in
      subst (IsNext (Linked t.links) a b) (sym (w.hops a b la' lb' apart)) (input.paths.nexts a b la' lb' apart)

  pub are_hops : AreHops n
  are_hops = record {
    distance = far routes (length t.switches);
    each = λ i h e. (let f = All-get (IsHopWellFormed n) n.hops i h w.form.hops e in let o = w.hop_once i h e in (f.from, f.target, o.0, o.1));
    linked = λ a b la lb apart. subst (λ l. Linked l a (next n a b)) (sym w.links) (next_is a b la lb apart).neighbour;
    nearer = λ a b la lb apart.
        (let r = next_nearer t input.well_formed routes input.paths a b (next n a b) (subst (λ s. a < s) same_count la) (subst (λ s. b < s) same_count lb) apart (next_is a b la lb apart) in
        (subst (λ s. next n a b < s) (sym same_count) r.0, r.1));
  }

  pub is_made : IsValid n → HasShape p t places n
  is_made valid = record {
    form = w.form;
    valid = valid;
    fields = w.fields;
    names = w.names;
    owners = w.owners;
    ranks = λ two order rank. (let r = input.ranked order rank in record {
      below = λ v l. subst (λ x. x < length order) (same_ranks v) (r.below v l);
      group = λ v l. subst (λ x. Tied p.body (slice_index order x) v) (same_ranks v) (r.group v l);
    });
    switches = w.switches;
    links = w.links;
    ports = w.ports;
    hops = λ a b la lb apart. next_is a b (subst (λ s. a < s) (sym same_count) la) (subst (λ s. b < s) (sym same_count) lb) apart;
  }

pub written : WrittenIsFaithful
written p t places routes ranks_list ns top ids number front n input bare num w =
    let nodes = numbered_nodes ns ids number in
    let ranks_are = same_ranks p t places routes ranks_list (numbered_nodes ns ids number) front n input w in
    let many = as_many p t places routes ranks_list (numbered_nodes ns ids number) front n input w in
    let good : AreNodes n (numbered_nodes ns ids number) front = nodes_good p ranks_list ns top ids number bare num n ranks_are many front w.is_front w.front_is in
    let placed = are_placed p t places routes ranks_list (numbered_nodes ns ids number) front n input w in
    let hops = are_hops p t places routes ranks_list (numbered_nodes ns ids number) front n input w in
    let valid = planned_is_valid n (numbered_nodes ns ids number) front w.version good placed hops w.rows in
    let shows : Shows ns ids number n = record {
      each = λ i b e. of_node p ranks_list ns top ids number bare num i b (node_back n (numbered_nodes ns ids number) front w.version good placed hops w.rows i b e);
      all = λ j c e i b o. all_shown n (numbered_nodes ns ids number) front w.version good placed hops w.rows j c e i b (node_at p ranks_list ns top ids number bare num i o.id o.node o.at o.is ∙ ap Some (sym o.row));
    } in
    facts_make p t places routes n (record {
      fits = input.fits;
      well_formed = input.well_formed;
      paths = input.paths;
      shape = is_made p t places routes ranks_list (numbered_nodes ns ids number) front n input w valid;
      version = w.version;
      meaning = shown_mean p ns top ids number n bare.arena num shows bare.outcome;
      never = input.never;
      small = input.small;
      live_and_reduced = shown_live p ns top ids number n bare.arena num shows bare.live bare.bare;
    })
