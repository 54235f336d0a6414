-- From faithful tables of version 2 alone: the chain of a packet, and steps in order.
use Rattle.std.proofs.Common.{◌≡◌, ℕ, zero, ◌+◌, Bool, true, false, cond, List, [], ◌∷◌, length, map, Some, refl, sym, ap, subst, ◌∙◌, arith}
use Rattle.std.specs.Prelude.{slice_get, slice_index, nat_eq}
use Rattle.std.specs.List.{filter, list_any}
use Rattle.std.specs.List.Sorted.{IsPermutation}
use Rattle.std.specs.Ordering.{eq_by_cmp}
use Rattle.std.specs.FinMap.{entries, entries_sorted, is_sorted, contains_key-keys}
use Rattle.std.specs.FinMap.Entries.{is_sorted-where_key}
use Rattle.std.proofs.lemmas.Bool.{eqb-true, eqb-false, cond-true, cond-false}
use Rattle.std.proofs.lemmas.Option.{same_Some}
use Rattle.std.proofs.lemmas.List.{length-map}
use Rattle.std.proofs.lemmas.List.Elements.{All-nil, All-cons}
use Rattle.std.proofs.lemmas.List.Sorted.{IsPermutation-map, IsPermutation-sym, IsPermutation-trans, list_any-IsPermutation}
use Rattle.snap_core.specs.declared.place.Place.{Place}
use Rattle.snap_core.specs.declared.program.Program.{Program}
use Rattle.snap_core.specs.declared.policy.Update.{Update}
use Rattle.snap_core.specs.Arrays.{Arrays, updates}
use Rattle.snap_core.specs.Inputs.{IsZeroFrom}
use Rattle.snap_core.specs.Packets.{PacketSet, packet_cmp, listed, marked, IsRising, set_of}
use Rattle.snap_core.specs.Switch.{Switched, one_big_switch, goes_out}
use Rattle.snap_core.specs.Meaning.{Meaning, eval}
use Rattle.snap_core.specs.Tests.{results}
use Rattle.snap_core.proofs.PacketSets.{same_packets}
use Rattle.snap_core.proofs.Rising.{listed-set_of}
use Rattle.snap_core.proofs.Truths.{true-from_T}
use Rattle.snap_topology.specs.declared.topology.Topology.{Topology}
use Rattle.snap_rows.specs.declared.tables.ArrayAt.{ArrayAt}
use Rattle.snap_rows.specs.declared.tables.Tables.{Tables}
use Rattle.snap_rows.specs.declared.tables.Row.{Row}
use Rattle.snap_rows.specs.declared.tables.Row.TheVariants.{Last}
use Rattle.snap_rows.specs.declared.head.Sent.{Sent}
use Rattle.snap_rows.specs.Entries.{Parts, node_of, port_numbers, rank_at, rank_of, ranks}
use Rattle.snap_rows.specs.Form.{array_count}
use Rattle.snap_rows.specs.Handles.{Visits, sent}
use Rattle.snap_rows.specs.Network.{Net, Happening}
use Rattle.snap_rows.proofs.Later.{rank_is_below}
use Rattle.snap_faithful.specs.Agreement.{sent_of, lost_of, CameOut, Agrees}
use Rattle.snap_faithful.specs.Faithful.{Faithful, IsStoreOf, IsPacketOf, CanEnter}
use Rattle.snap_faithful.specs.Visits.{Enters, Chained, visited}
use Rattle.snap_faithful.specs.Chains.{Chain, FaithfulKeepsStores, FaithfulChains}
use Rattle.snap_faithful.specs.InOrder.{StandsAt, Becomes, handled_more, TakesTurns, seeks, waits, visits, concludes, HoldsInOrder, IsOnItsChain, FaithfulTurnsKeep}
use Rattle.snap_faithful.proofs.Nodes.{IsTwo, own_node}
use Rattle.snap_faithful.proofs.Trips.{Ended, ended}
use Rattle.snap_faithful.proofs.Guides.{standing, guided, visit_keeps}
use Rattle.snap_faithful.proofs.Switching.{switched_first, only_outcome}
use Rattle.snap_faithful.proofs.Whole.{whole_holds, starts}
use Rattle.snap_faithful.proofs.Chained.{chains_one, chain_home, enters_one}
use Rattle.snap_faithful.proofs.ByChain.{by_chain, ForkedAt, one_run, same_updates, same_visit}

-- ---- sets of packets of which the same are sent
marked_kept : (p : List ℕ → Bool) (es : List (List ℕ × Unit {0})) → marked (filter p (map (λ e. e.0) es)) ≡ filter (λ e. p e.0) es
marked_kept p [] = refl
marked_kept p (e ∷ es) = by (p e.0) (marked_kept p es)
  where
    by : (b : Bool) → marked (filter p (map (λ e. e.0) es)) ≡ filter (λ e. p e.0) es
        → marked (cond b (e.0 ∷ filter p (map (λ e. e.0) es)) (filter p (map (λ e. e.0) es))) ≡ cond b (e ∷ filter (λ e. p e.0) es) (filter (λ e. p e.0) es)
    by true h = ap (λ l. e ∷ l) h
    by false h = h

rising_kept : (s : PacketSet) (p : List ℕ → Bool) → IsRising (filter p (listed s))
rising_kept s p = ap (is_sorted packet_cmp) (marked_kept p (entries s)) ∙ true-from_T _ (is_sorted-where_key packet_cmp p (entries s) (entries_sorted s))

same_rising : (xs ys : List (List ℕ)) → IsRising xs → IsRising ys → IsPermutation xs ys → xs ≡ ys
same_rising xs ys rx ry perm =
    sym (listed-set_of xs rx)
    ∙ ap listed (same_packets (set_of xs) (set_of ys) (λ q.
    contains_key-keys (set_of xs) q
    ∙ ap (list_any (eq_by_cmp packet_cmp q)) (listed-set_of xs rx)
    ∙ list_any-IsPermutation (eq_by_cmp packet_cmp q) xs ys perm
    ∙ sym (contains_key-keys (set_of ys) q ∙ ap (list_any (eq_by_cmp packet_cmp q)) (listed-set_of ys ry))))
    ∙ listed-set_of ys ry

pub packets_sent : (ks : List (List ℕ)) → map (λ (x : Sent). x.packet) (map sent ks) ≡ ks
packets_sent [] = refl
packets_sent (k ∷ ks) = ap (λ l. k ∷ l) (packets_sent ks)

same_sent : (t : Tables) (a b : PacketSet) → IsPermutation (sent_of t a) (sent_of t b) → sent_of t a ≡ sent_of t b
same_sent t a b perm =
    let kept = λ (s : PacketSet). filter (goes_out (port_numbers t)) (listed s) in
    ap (map sent) (same_rising (kept a) (kept b) (rising_kept a (goes_out (port_numbers t))) (rising_kept b (goes_out (port_numbers t)))
    (subst (λ l. IsPermutation l (kept b)) (packets_sent (kept a))
    (subst (IsPermutation (map (λ (x : Sent). x.packet) (map sent (kept a)))) (packets_sent (kept b)) (IsPermutation-map (λ (x : Sent). x.packet) (sent_of t a) (sent_of t b) perm))))

last_outs : List Parts → Row → List Parts
last_outs d (Last us os) = os
last_outs d _ = d

same_outs : (us us' : List Update) (os os' : List Parts) → Last us os ≡ Last us' os' → os ≡ os'
unfolding last_outs
same_outs us us' os os' e = ap (last_outs []) e

-- ---- stores
pub faithful_stores : FaithfulKeepsStores
faithful_stores p topology places t f m k store packet =
    let end = f.defined m (k ∷ []) store (All-cons (IsPacketOf p) k [] packet (All-nil (IsPacketOf p))) in
    let o = only_outcome p.body m k end.0 end.1 in
    (o.0, o.1, subst (IsStoreOf p) (sym o.2) end.2)

pub faithful-two : {p : Program} {topology : Topology} {places : List ℕ} {t : Tables} → Faithful p topology places t → t.version ≡ 2 → IsTwo t
faithful-two f version = record { form = f.shape.form; valid = f.shape.valid; version = version }

module _ (p : Program) (topology : Topology) (places : List ℕ) (t : Tables) (f : Faithful p topology places t) (version : t.version ≡ 2) where
  two : IsTwo t
  two = faithful-two f version

  zeros : (m : Arrays) → IsStoreOf p m → IsZeroFrom (array_count t) m
  zeros m store q l = store.only q (let e = sym (length-map t.arrays (λ (a : ArrayAt). a.name)) ∙ ap length f.shape.names in omega (arith, l, e))

  only_out : (k : List ℕ) (m : Arrays) (o : Meaning) → eval p.body m k ≡ Some o → one_big_switch p.body m (k ∷ []) ≡ Some (record { packets = o.packets ∷ []; arrays = o.arrays })
  only_out k m o e = switched_first p.body m k [] o (record { packets = []; arrays = o.arrays }) e refl

  -- ---- the chain
  made : (m : Arrays) (k : List ℕ) (o : Meaning) → eval p.body m k ≡ Some o → (s : Net) (hs : List Happening) → Agrees p t m (k ∷ []) (zero ∷ []) s hs → Ended t (standing t) k (guided t two k (by_chain t two k m)) 0 s hs → Chain t k m o
  made m k o e s hs agrees end = record {
    first = at.first;
    last = at.last;
    at = at.at;
    ups = at.ups;
    outs = at.outs;
    enters = at.enters;
    chained = at.behind.chained;
    leaf = at.leaf;
    leaves = λ w r x y us c own visit q at'. at.behind.own w r x y us (rank_is_below t r w own) c own visit q at' ∙ same q;
    forks = λ w v us os c row.
        (let number : v ≡ at.last = chains_one t k m at.first (ranks t) v at.last c at.behind.chained in
        let rows : Last us os ≡ Last at.ups at.outs = same_Some _ _ (sym (own_node t two w v (Last us os) row refl) ∙ ap (node_of t) number ∙ own_node t two at.at at.last (Last at.ups at.outs) at.leaf refl) in
        let set : results os k ≡ end.set = ap (λ l. results l k) (same_outs us at.ups os at.outs rows) ∙ at.made in (
          ap (sent_of t) set ∙ same_sent t end.set o.packets (IsPermutation-trans _ _ _ (IsPermutation-sym _ _ end.came.ports) came.ports),
          ap (lost_of t) set ∙ ap (λ l. slice_index l 0) (sym end.came.loss ∙ came.loss),
        ));
  }
    where
      at : ForkedAt t two k m end.set end.arrays
      at = end.end

      end_is : record { packets = o.packets ∷ []; arrays = o.arrays } ≡ agrees.end
      end_is = same_Some _ _ (sym (only_out k m o e) ∙ agrees.switched)

      came : CameOut t 0 o.packets hs
      came = agrees.packets 0 0 o.packets refl (ap (λ (x : Switched). slice_get x.packets 0) (sym end_is))

      same : (q : Place) → end.arrays q ≡ o.arrays q
      same q = sym (whole_holds t two s end.arrays end.held at.behind.zeros q) ∙ agrees.arrays q ∙ ap (λ (x : Switched). x.arrays q) (sym end_is)

  chain : (m : Arrays) (port : ℕ) (k : List ℕ) (o : Meaning) → IsStoreOf p m → CanEnter p t (port, k) → eval p.body m k ≡ Some o → Chain t k m o
  chain m port k o store can e =
      let run = f.plain_runs m ((port, k) ∷ []) store (All-cons (CanEnter p t) (port, k) [] can (All-nil (CanEnter p t))) in
      made m k o e run.1 run.2 run.4
      (ended t (standing t) k (guided t two k (by_chain t two k m)) 0 run.1 run.2 run.3.ended
      (one_run t two k (by_chain t two k m) m (λ w at. record { port = at; same = λ q. refl; zeros = zeros m store }) port run.3.packets refl refl (starts t two m (zeros m store)) run.3.run))

  -- ---- steps in order
  module _ (m : ℕ → Arrays) (i port : ℕ) (k : List ℕ) (o : Meaning) (store : IsStoreOf p (m i)) (can : CanEnter p t (port, k)) (outcome : eval p.body (m i) k ≡ Some o) (next : (q : Place) → o.arrays q ≡ m (i + 1) q) (first : ℕ)
      (entry : Enters t k (m i) first) (w : ℕ) where
    from_first : (r v : ℕ) → Chained t k (m i) first r v → Chained t k (m i) (chain (m i) port k o store can outcome).first r v
    from_first r v c = subst (λ x. Chained t k (m i) x r v) (sym (enters_one t k (m i) (chain (m i) port k o store can outcome).first first (chain (m i) port k o store can outcome).enters entry)) c

    module _ (r v x : ℕ) (s : Arrays) (h : ℕ → ℕ) (us : List Update) (c : Chained t k (m i) first r v) (own : rank_at t r ≡ Some w) (turn : h r ≡ i) (held : HoldsInOrder t m w s h) (visit : Visits t w k s r v x us) where
      level : (q : Place) → rank_of t q.var ≡ r → s q ≡ m i q
      level q at = held q (ap (rank_at t) at ∙ own) ∙ ap (λ x. m x q) (ap h at ∙ turn)

      -- the visit by the switch's arrays is the chain's
      by_chain_too : Visits t w k (m i) r v x us
      by_chain_too = same_visit t two k w r v x s (m i) us (chain_home t two k (m i) first entry c (rank_is_below t r w own)) own level visit

      leaves_own : (q : Place) → rank_of t q.var ≡ r → updates s us k q ≡ o.arrays q
      leaves_own q at = same_updates t two k visit s (m i) level q at ∙ (chain (m i) port k o store can outcome).leaves w r v x us (from_first r v c) own by_chain_too q at

      held_on : HoldsInOrder t m w (updates s us k) (handled_more h r)
      held_on q here = by (nat_eq (rank_of t q.var) r) refl
        where
          by : (b : Bool) → nat_eq (rank_of t q.var) r ≡ b → updates s us k q ≡ m (handled_more h r (rank_of t q.var)) q
          by true is =
              let same = eqb-true (rank_of t q.var) r is in
              leaves_own q same ∙ next q ∙ ap (λ x. m x q) (sym (cond-true _ _ _ is ∙ ap (λ x. x + 1) (ap h same ∙ turn)))
          by false isnt = visit_keeps t k visit s q (eqb-false (rank_of t q.var) r isnt) ∙ held q here ∙ ap (λ x. m x q) (sym (cond-false _ _ _ isnt))

      far_stays : (q : Place) → (StandsAt t w q.var → ⊥) → updates s us k q ≡ s q
      far_stays q away = visit_keeps t k visit s q (λ same. away (ap (rank_at t) same ∙ own))

      longer : Chained t k (m i) first (r + 1) x
      longer = visited c own by_chain_too

    take_turns : {s s' : Arrays} {h h' : ℕ → ℕ} {r v : ℕ} {b : Becomes} → Chained t k (m i) first r v → HoldsInOrder t m w s h → TakesTurns t w k i s h r v s' h' b
        → HoldsInOrder t m w s' h' × IsOnItsChain t k (m i) o first b × ((q : Place) → (StandsAt t w q.var → ⊥) → s' q ≡ s q)
    take_turns c held (seeks own away) = (held, c, λ q out. refl)
    take_turns c held (waits own early) = (held, c, λ q out. refl)
    take_turns {s = s} {h = h} {r = r} {v = v} c held (visits {v = x} {us = us} own turn visit more rest) =
        let on = take_turns (longer r v x s h us c own turn held visit) (held_on r v x s h us c own turn held visit) rest in
        (on.0, on.1, λ q out. on.2 q out ∙ far_stays r v x s h us c own turn held visit q out)
    take_turns {s = s} {h = h} {r = r} {v = v} c held (concludes {v = x} {us = us} {ups = ups} {os = os} own turn visit last row) =
        let end = subst (λ y. Chained t k (m i) first y x) last (longer r v x s h us c own turn held visit) in
        let same = (chain (m i) port k o store can outcome).forks w x ups os (from_first (ranks t) x end) row in
        (held_on r v x s h us c own turn held visit, same, far_stays r v x s h us c own turn held visit)

pub faithful_chains : FaithfulChains
faithful_chains p topology places t f version m port k o store can outcome = chain p topology places t f version m port k o store can outcome

pub faithful_turns : FaithfulTurnsKeep
faithful_turns p topology places t f version m i port k o store can outcome next first entry w r v s s' h h' b c held takes =
    take_turns p topology places t f version m i port k o store can outcome next first entry w c held takes
