-- Runs in order over faithful tables: where each packet is, and what the switches hold.
use Rattle.std.proofs.Common.{◌≡◌, ◌≢◌, ℕ, zero, suc, ◌+◌, ◌<◌, ◌≤◌, ◌⊎◌, inl, inr, ⊎_elim, Bool, true, false, cond, List, [], ◌∷◌, ◌++◌, take, drop, get_or, length, Some, refl, sym, ap, subst, ◌∙◌, arith, append_assoc}
use Rattle.std.specs.Prelude.{slice_get, slice_index, slice_index_or, nat_eq}
use Rattle.std.proofs.lemmas.Bool.{both_ways, eqb-true, eqb-false, eq-eqb, ne_eqb, cond-true, cond-false, cases_lt}
use Rattle.std.proofs.lemmas.List.{append-nil, length-append}
use Rattle.std.proofs.lemmas.List.Elements.{All-map, All-take, filter-append}
use Rattle.std.proofs.lemmas.Option.{none-some, same_Some}
use Rattle.snap_core.specs.declared.place.Place.{Place}
use Rattle.snap_core.specs.declared.policy.Update.{Update}
use Rattle.snap_core.specs.declared.program.Program.{Program}
use Rattle.snap_core.specs.Arrays.{Arrays}
use Rattle.snap_core.specs.Meaning.{Meaning, eval}
use Rattle.snap_core.specs.Packets.{PacketSet}
use Rattle.snap_core.specs.Switch.{Switched, one_big_switch}
use Rattle.snap_core.specs.Tests.{results}
use Rattle.snap_topology.specs.declared.topology.Topology.{Topology}
use Rattle.snap_rows.specs.declared.tables.Tables.{Tables}
use Rattle.snap_rows.specs.declared.tables.Row.TheVariants.{Last}
use Rattle.snap_rows.specs.Actions.{Action, Forward, Fork}
use Rattle.snap_rows.specs.declared.head.Head.{Head}
use Rattle.snap_rows.specs.declared.head.Head.TheVariants.{Walk, Visit}
use Rattle.snap_rows.specs.declared.head.Sent.{Sent}
use Rattle.snap_rows.specs.Entries.{Parts, port_at, rank_at, rank_of, ranks, row_at}
use Rattle.snap_rows.specs.Handles.{Handles, Follows, is_field, forked}
use Rattle.snap_rows.specs.Handles as handles
use Rattle.snap_rows.specs.Happenings.{deliveries_of, losses_of}
use Rattle.snap_rows.specs.Network.{Net, Copy, Event, Inject, Step, Happening, stepped, injected, happening, packets_of}
use Rattle.snap_rows.specs.Network as network
use Rattle.snap_faithful.specs.Agreement.{sent_of, lost_of}
use Rattle.snap_faithful.specs.Chains.{Chain}
use Rattle.snap_faithful.specs.Faithful.{Faithful, IsStoreOf, IsPacketOf, CanEnter, AllCanEnter, packets_in}
use Rattle.snap_faithful.specs.InOrder.{StandsAt, Becomes, SentOn, Waiting, Forks, TakesTurns, HoldsInOrder, IsOnItsChain}
use Rattle.snap_faithful.specs.Visits.{Enters, Chained, begun}
use Rattle.snap_faithful.proofs.Chained.{enters_one, fields_alike}
use Rattle.snap_faithful.proofs.Leaving.{IsQuiet, Leaving, Same, copies_before, copies_of, copies_own, copies_moved, front, back, leaving_begins, leaving_on, leaving_still, others_same, own_leaves, quiet_more, quiet_still}
use Rattle.snap_faithful.proofs.SingleOwnerRuns.{is_unforked, only_one}
use Rattle.snap_faithful.proofs.Nodes.{IsTwo, WalkDoes, visits_first, forks_at_once, walk_does, OutDoes, is_delivered, is_carried, out_does}
use Rattle.snap_faithful.proofs.Switching.{behind, in_pushed, picked_at, switched_more}
use Rattle.snap_faithful.proofs.Turning.{faithful_chains, faithful_stores, faithful_turns, faithful-two}
use Rattle.snap_rows.specs.Stepping.{ComesTo, visit, walk}
use Rattle.snap_order.specs.Ordered.{Ordered, OrderedHappening, Happens, Stays, Waits, AwaitsVisit, turn_of, visited, LeadsInOrder, injects, moves, visits, waits, RunsInOrder, happenings}
use Rattle.snap_order.specs.Turning.{rank_behind}
use Rattle.snap_order.proofs.Taking.{Counts, counts}

-- ---- lists
not_none : {A : Type 0} (xs : List A) (c : A) (ys : List A) → xs ++ c ∷ ys ≡ [] → ⊥
not_none [] c ys e = none-some c (ap (λ l. slice_get l 0) (sym e))
not_none (x ∷ xs) c ys e = none-some x (ap (λ l. slice_get l 0) (sym e))

take_more : (xs : List (List ℕ)) (i n : ℕ) → n ≡ i + 1 → i < length xs → take n xs ≡ take i xs ++ slice_index_or xs i [] ∷ []
take_more [] i n e l = absurd (let h : i < 0 = l in omega (arith, h))
take_more (x ∷ xs) zero zero e l = absurd (omega (arith, e))
take_more (x ∷ xs) zero (suc zero) e l = refl
take_more (x ∷ xs) zero (suc (suc n)) e l = absurd (omega (arith, e))
take_more (x ∷ xs) (suc i) zero e l = absurd (omega (arith, e))
take_more (x ∷ xs) (suc i) (suc n) e l = ap (λ r. x ∷ r) (take_more xs i n (omega (arith, e)) (let h : suc i < suc (length xs) = l in omega (arith, h)))

pub happenings_more : (us vs : List OrderedHappening) → happenings (us ++ vs) ≡ happenings us ++ happenings vs
happenings_more [] vs = refl
happenings_more (Happens h ∷ us) vs = ap (λ l. h ∷ l) (happenings_more us vs)
happenings_more (Stays c r ∷ us) vs = happenings_more us vs
happenings_more (Waits c r ∷ us) vs = happenings_more us vs

pub comes_early : {t : Tables} {w : ℕ} {k : List ℕ} {m : Arrays} {head : Head} {r n : ℕ} → ComesTo t w k m head r n → is_unforked head ≡ true
comes_early visit = refl
comes_early (walk some follow) = refl

-- ---- a copy that stays at its switch
abbrev staying : Copy → ℕ → ℕ → Copy
staying c r n = record c { head = Visit r n; steps = c.steps + 1 }

module _ (s : Net) (c : Copy) (j : ℕ) (found : slice_get s.flying j ≡ Some c) (y : Copy) (own : y.number ≡ c.number) where
  abbrev replaced : List Copy
  replaced = take j s.flying ++ (y ∷ [] ++ drop (j + 1) s.flying)

  after_is : (i : ℕ) → copies_of i replaced ≡ copies_of i (take j s.flying) ++ cond (nat_eq y.number i) (y ∷ copies_of i (drop (j + 1) s.flying)) (copies_of i (drop (j + 1) s.flying))
  after_is i = filter-append (λ (c : Copy). nat_eq c.number i) (take j s.flying) (y ∷ drop (j + 1) s.flying)

  replaced_own : copies_of c.number replaced ≡ front s c j found ++ y ∷ back s c j found
  replaced_own = after_is c.number ∙ ap (λ b. front s c j found ++ cond b (y ∷ back s c j found) (back s c j found)) (eq-eqb y.number c.number own)

  replaced_other : (i : ℕ) → c.number ≢ i → copies_of i replaced ≡ copies_of i s.flying
  replaced_other i ne =
      after_is i
      ∙ ap (λ b. copies_of i (take j s.flying) ++ cond b (y ∷ copies_of i (drop (j + 1) s.flying)) (copies_of i (drop (j + 1) s.flying))) (ne_eqb y.number i (λ e. ne (sym own ∙ e)))
      ∙ sym (copies_before s c j found i ∙ ap (λ b. copies_of i (take j s.flying) ++ cond b (c ∷ copies_of i (drop (j + 1) s.flying)) (copies_of i (drop (j + 1) s.flying))) (ne_eqb c.number i ne))

-- ---- numbers handled
-- the ranks below r have handled packet i, and the others haven't
pub record Passed (h : ℕ → ℕ) (i r : ℕ) : Type 0 where
  pub past : (q : ℕ) → q < r → i < h q
  pub ahead : (q : ℕ) → r ≤ q → h q ≤ i

module _ {t : Tables} {w : ℕ} {k : List ℕ} {x r e : ℕ} {h h' : ℕ → ℕ} (c : Counts t w k x r e h h') where
  at_rank : (q : ℕ) → (h' q ≡ h q) ⊎ ((rank_at t q ≡ Some w) × (h q ≡ x) × (h' q ≡ x + 1))
  at_rank q = ⊎_elim (λ l. inl (c.low q l)) (λ a. ⊎_elim (λ b. inr (c.mine q a b)) (λ b. inl (c.high q b)) (cases_lt q e)) (cases_lt q r)

  own_passed : Passed h x r → Passed h' x e
  own_passed p = record {
    past = λ q l.
        ⊎_elim
        (λ low. (let a = p.past q low in let b = c.low q low in omega (arith, a, b)))
        (λ a. (let b = (c.mine q a l).2 in omega (arith, b)))
        (cases_lt q r);
    ahead = λ q l. (let u = c.up in let a = p.ahead q (omega (arith, u, l)) in let b = c.high q l in omega (arith, a, b));
  }

  other_passed : (i q : ℕ) → x ≢ i → Passed h i q → Passed h' i q
  other_passed i q ne p = record {
    past = λ j l. (let a = p.past j l in ⊎_elim (λ s. omega (arith, a, s)) (λ m. (let u = m.1 in let v = m.2 in omega (arith, a, u, v))) (at_rank j));
    ahead = λ j l. (let a = p.ahead j l in ⊎_elim (λ s. omega (arith, a, s)) (λ m. (let u = m.1 in let v = m.2 in omega (arith, a, u, v, ne))) (at_rank j));
  }

  most_after : (n : ℕ) → x < n → ((q : ℕ) → h q ≤ n) → (q : ℕ) → h' q ≤ n
  most_after n low most q = let a = most q in ⊎_elim (λ s. omega (arith, a, s)) (λ m. (let v = m.2 in omega (arith, v, low))) (at_rank q)

  -- ranks of other switches have handled what they had
  elsewhere : (w' q : ℕ) → w' ≢ w → rank_at t q ≡ Some w' → h' q ≡ h q
  elsewhere w' q ne at = ⊎_elim (λ s. s) (λ m. absurd (ne (same_Some w' w (sym at ∙ m.0)))) (at_rank q)

module _ (p : Program) (topology : Topology) (places : List ℕ) (t : Tables) (f : Faithful p topology places t) (version : t.version ≡ 2) (m0 : Arrays) (store0 : IsStoreOf p m0) (ks : List (ℕ × List ℕ)) (can : AllCanEnter p t ks) where
  two : IsTwo t
  two = faithful-two f version

  -- ---- one big switch, packet by packet
  abbrev pub all : List (List ℕ)
  all = packets_in ks

  abbrev pub pick : ℕ → List ℕ
  pick i = slice_index_or all i []

  enters_at : (i : ℕ) → i < length all → (port : ℕ) × CanEnter p t (port, pick i)
  enters_at i l = All-map (λ k. (port : ℕ) × CanEnter p t (port, k)) (λ e. e.1) ks (λ j e l. ((get_or ks j e).0, can j e l)) i [] l

  -- after the first packets
  pub after : (i : ℕ) → (end : Switched) × (one_big_switch p.body m0 (take i all) ≡ Some end) × IsStoreOf p end.arrays
  after i = f.defined m0 (take i all) store0 (All-take (IsPacketOf p) i all (All-map (IsPacketOf p) (λ e. e.1) ks (λ j e l. (can j e l).packet)))

  -- the arrays before packet i
  abbrev pub before : ℕ → Arrays
  before i = (after i).0.arrays

  pub record Acted (i : ℕ) : Type 0 where
    pub outcome : Meaning
    pub is : eval p.body (before i) (pick i) ≡ Some outcome
    pub packets : (after (i + 1)).0.packets ≡ (after i).0.packets ++ outcome.packets ∷ []
    pub arrays : outcome.arrays ≡ before (i + 1)

  pub acted : (i : ℕ) → i < length all → Acted i
  acted i l =
      let o = faithful_stores p topology places t f (before i) (pick i) (after i).2 (enters_at i l).1.packet in
      let next : one_big_switch p.body m0 (take (i + 1) all) ≡ Some (behind (after i).0 o.0) =
      ap (one_big_switch p.body m0) (take_more all i (i + 1) refl l) ∙ switched_more p.body (take i all) m0 (pick i) (after i).0 o.0 (after i).1 o.1 in
      let same : behind (after i).0 o.0 ≡ (after (i + 1)).0 = same_Some _ _ (sym next ∙ (after (i + 1)).1) in
      record { outcome = o.0; is = o.1; packets = sym (ap (λ (x : Switched). x.packets) same); arrays = ap (λ (x : Switched). x.arrays) same }

  -- so many sets, and each is that of its packet
  abbrev AreSets : ℕ → Type 0
  AreSets n = (length (after n).0.packets ≡ n) × ((i : ℕ) (set : PacketSet) → slice_get (after n).0.packets i ≡ Some set → (o : Meaning) → eval p.body (before i) (pick i) ≡ Some o → set ≡ o.packets)

  pub sets : (n : ℕ) → n ≤ length all → AreSets n
  sets zero le =
      let none : (after 0).0.packets ≡ [] = ap (λ (x : Switched). x.packets) (sym (same_Some (record { packets = []; arrays = m0 }) _ (after 0).1)) in
      (ap length none, λ i set g. absurd (none-some set (ap (λ l. slice_get l i) (sym none) ∙ g)))
  sets (suc n) le = subst AreSets (let e : n + 1 ≡ suc n = omega arith in e) (more (sets n (omega (arith, le))))
    where
      low : n < length all
      low = omega (arith, le)

      a : Acted n
      a = acted n low

      more : AreSets n → AreSets (n + 1)
      more some = (
        ap length a.packets ∙ length-append (after n).0.packets (a.outcome.packets ∷ []) ∙ (let s = some.0 in omega (arith, s)),
        λ i set g o e.
            ⊎_elim (λ old. some.1 i set old o e)
            (λ new. sym new.1 ∙ ap (λ (x : Meaning). x.packets) (same_Some a.outcome o (sym a.is ∙ ap (λ x. eval p.body (before x) (pick x)) (sym (new.0 ∙ some.0)) ∙ e)))
            (in_pushed (after n).0.packets a.outcome.packets set i (subst (λ l. slice_get l i ≡ Some set) a.packets g)),
      )

  chain : (i : ℕ) → i < length all → (o : Meaning) → eval p.body (before i) (pick i) ≡ Some o → Chain t (pick i) (before i) o
  chain i l o e = let c = enters_at i l in faithful_chains p topology places t f version (before i) c.0 (pick i) o (after i).2 c.1 e

  -- ---- where the packets are
  -- where the copy of packet i stands before rank r, and hasn't forked
  pub data Stands (i w : ℕ) : Head → ℕ → Type 0 where
    walking : port_at t (slice_index (pick i) 0) ≡ Some w → Stands i w (Walk 0) 0
    visiting : {first r v : ℕ} → Enters t (pick i) (before i) first → Chained t (pick i) (before i) first r v → Stands i w (Visit r v) r

  pub stands_early : (i w : ℕ) (head : Head) (r : ℕ) → Stands i w head r → is_unforked head ≡ true
  stands_early i w head r (walking port) = refl
  stands_early i w head r (visiting enters chained) = refl

  pub record Underway (i : ℕ) (s : Net) (h : ℕ → ℕ) (hs : List Happening) : Type 0 where
    pub quiet : IsQuiet i hs
    pub copy : Copy
    pub only : copies_of i s.flying ≡ copy ∷ []
    pub packet : copy.packet ≡ pick i
    pub rank : ℕ
    pub stands : Stands i copy.at copy.head rank
    pub passed : Passed h i rank

  -- all its copies are on their way out
  pub record Gone (i : ℕ) (s : Net) (h : ℕ → ℕ) (hs : List Happening) : Type 0 where
    pub leaving : (o : Meaning) → eval p.body (before i) (pick i) ≡ Some o → Leaving t i o.packets s hs
    pub passed : Passed h i (ranks t)

  pub record Unseen (i : ℕ) (s : Net) (hs : List Happening) : Type 0 where
    pub quiet : IsQuiet i hs
    pub none : copies_of i s.flying ≡ []

  -- n packets have been injected
  pub record State (n : ℕ) (s : Net) (h : ℕ → ℕ) (hs : List Happening) : Type 0 where
    pub count : s.injected ≡ n
    pub held : (w : ℕ) → HoldsInOrder t before w (s.stores w) h
    pub most : (q : ℕ) → h q ≤ n
    pub each : (i : ℕ) → i < n → Underway i s h hs ⊎ Gone i s h hs
    pub fresh : (i : ℕ) → n ≤ i → Unseen i s hs

  -- ---- another packet
  unseen_still : {i : ℕ} {s s' : Net} {hs hs' : List Happening} → Same i s s' hs hs' → Unseen i s hs → Unseen i s' hs'
  unseen_still same u = record { quiet = quiet_still same u.quiet; none = same.copies ∙ u.none }

  module _ {i : ℕ} {s s' : Net} {h h' : ℕ → ℕ} {hs hs' : List Happening} (same : Same i s s' hs hs') where
    each_still : ((r : ℕ) → Passed h i r → Passed h' i r) → Underway i s h hs ⊎ Gone i s h hs → Underway i s' h' hs' ⊎ Gone i s' h' hs'
    each_still on (inl u) = inl (record { quiet = quiet_still same u.quiet; copy = u.copy; only = same.copies ∙ u.only; packet = u.packet; rank = u.rank; stands = u.stands; passed = on u.rank u.passed })
    each_still on (inr g) = inr (record { leaving = λ o e. leaving_still same (g.leaving o e); passed = on (ranks t) g.passed })

  -- ---- injection
  abbrev entering : Net → ℕ → List ℕ → Copy
  entering s w k = record { number = s.injected; at = w; head = Walk 0; packet = k; hops = 0; steps = 0 }

  module _ (n : ℕ) (s : Net) (h : ℕ → ℕ) (hs : List Happening) (st : State n s h hs) (w port : ℕ) (k : List ℕ) (is : pick n ≡ k) (own : port_at t port ≡ Some w) (names : slice_index k 0 ≡ port) where
    copies_more : (i : ℕ) → copies_of i (injected s w port k).flying ≡ copies_of i s.flying ++ cond (nat_eq s.injected i) (entering s w k ∷ []) []
    copies_more i = filter-append (λ (c : Copy). nat_eq c.number i) s.flying (entering s w k ∷ [])

    others_enter : (i : ℕ) → s.injected ≢ i → Same i s (injected s w port k) hs hs
    others_enter i ne = record {
      copies = copies_more i ∙ ap (λ b. copies_of i s.flying ++ cond b (entering s w k ∷ []) []) (ne_eqb s.injected i ne) ∙ append-nil _;
      deliveries = refl;
      losses = refl;
    }

    new : Underway n (injected s w port k) h hs
    new = record {
      quiet = (st.fresh n (omega arith)).quiet;
      copy = entering s w k;
      only = copies_more n ∙ (λ x. (st.fresh n (omega arith)).none x ++ cond (eq-eqb s.injected n st.count x) (entering s w k ∷ []) []);
      packet = sym is;
      rank = 0;
      stands = walking (ap (λ k. port_at t (slice_index k 0)) is ∙ ap (port_at t) names ∙ own);
      passed = record { past = λ q l. absurd (omega (arith, l)); ahead = λ q l. st.most q };
    }

    enter : State (n + 1) (injected s w port k) h hs
    enter = record {
      count = ap (λ x. x + 1) st.count;
      held = st.held;
      most = λ q. (let a = st.most q in omega (arith, a));
      each = λ i l.
          ⊎_elim (λ old. each_still (others_enter i (λ x. (let y = st.count in omega (arith, x, y, old)))) (λ r a. a) (st.each i old))
          (λ late. inl (subst (λ y. Underway y (injected s w port k) h hs) (let e : n ≡ i = omega (arith, l, late) in e) new))
          (cases_lt i n);
      fresh = λ i l. unseen_still (others_enter i (λ x. (let y = st.count in omega (arith, x, y, l)))) (st.fresh i (omega (arith, l)));
    }

  -- ---- steps
  -- what a copy that hasn't forked and isn't before a visit does
  data Goes (i : ℕ) (s : Arrays) (r : ℕ) : Arrays → Action → Type 0 where
    sends : {y v first : ℕ} → Enters t (pick i) (before i) first → Chained t (pick i) (before i) first r v → Goes i s r s (Forward y (Visit r v))
    splits : (w : ℕ) {v first : ℕ} {us : List Update} {os : List Parts} → r ≡ ranks t → Enters t (pick i) (before i) first → Chained t (pick i) (before i) first r v → row_at t w v ≡ Some (Last us os)
        → Goes i s r s (forked t os (pick i))

  entered : (i w v : ℕ) (s : Arrays) → port_at t (slice_index (pick i) 0) ≡ Some w → Follows t w (pick i) is_field s 0 v → Enters t (pick i) (before i) v
  entered i w v s port follow = record { at = w; port = port; fields = fields_alike t f.shape.form w (pick i) s (before i) 0 v follow }

  module _ (i w : ℕ) (s : Arrays) where
    walk_goes : {m : Arrays} {a : Action} → port_at t (slice_index (pick i) 0) ≡ Some w → ((r n : ℕ) → ComesTo t w (pick i) s (Walk 0) r n → rank_at t r ≡ Some w → ⊥) → WalkDoes t w (pick i) s 0 m a → Goes i s 0 m a
    walk_goes port none (visits_first {v = v} some follow rest) = by rest
      where
        by : {m : Arrays} {a : Action} → Handles t w (pick i) s (Visit 0 v) m a → Goes i s 0 m a
        by (handles.seeks own away) = sends (entered i w v s port follow) begun
        by (handles.visits own made more rest) = absurd (none 0 v (walk some follow) own)
        by (handles.concludes own made last row) = absurd (none 0 v (walk some follow) own)
    walk_goes port none (forks_at_once {v = v} no_rank follow row) = splits w (sym no_rank) (entered i w v s port follow) begun row

    goes : {head : Head} {r : ℕ} {m : Arrays} {a : Action} → Stands i w head r → ((r n : ℕ) → ComesTo t w (pick i) s head r n → rank_at t r ≡ Some w → ⊥) → Handles t w (pick i) s head m a → Goes i s r m a
    goes (walking port) none does = walk_goes port none (walk_does t two does)
    goes (visiting enters chained) none (handles.seeks own away) = sends enters chained
    goes {r = r} (visiting {v = v} enters chained) none (handles.visits own at more rest) = absurd (none r v visit own)
    goes {r = r} (visiting {v = v} enters chained) none (handles.concludes own at last row) = absurd (none r v visit own)

    -- one that comes to a visit
    pub record Comes (q r n : ℕ) : Type 0 where
      pub first : ℕ
      pub enters : Enters t (pick i) (before i) first
      pub chained : Chained t (pick i) (before i) first r n
      pub rank : q ≡ r

    pub comes : {head : Head} {q r n : ℕ} → Stands i w head q → ComesTo t w (pick i) s head r n → Comes q r n
    comes (walking port) (walk {v = v} some follow) = record { first = v; enters = entered i w v s port follow; chained = begun; rank = refl }
    comes (visiting {first = first} enters chained) visit = record { first = first; enters = enters; chained = chained; rank = refl }

  held_after : (s : Net) (x : ℕ) (m : Arrays) (h h' : ℕ → ℕ) → ((w : ℕ) → HoldsInOrder t before w (s.stores w) h) → HoldsInOrder t before x m h' → ((w q : ℕ) → w ≢ x → rank_at t q ≡ Some w → h' q ≡ h q)
      → (w : ℕ) → HoldsInOrder t before w (cond (nat_eq w x) m (s.stores w)) h'
  held_after s x m h h' held here far w q at = by (nat_eq w x) refl
    where
      by : (b : Bool) → nat_eq w x ≡ b → cond (nat_eq w x) m (s.stores w) q ≡ before (h' (rank_of t q.var)) q
      by true is = ap (λ (y : Arrays). y q) (cond-true (nat_eq w x) m (s.stores w) is) ∙ here q (subst (λ y. StandsAt t y q.var) (eqb-true w x is) at)
      by false isnt = ap (λ (y : Arrays). y q) (cond-false (nat_eq w x) m (s.stores w) isnt) ∙ held w q at ∙ ap (λ n. before n q) (sym (far w (rank_of t q.var) (eqb-false w x isnt) at))

  module _ (n : ℕ) (few : n ≤ length all) (s : Net) (h : ℕ → ℕ) (hs : List Happening) (st : State n s h hs) (x : Copy) (j : ℕ) (found : slice_get s.flying j ≡ Some x) where
    -- a copy in flight has a number that was injected
    pub below : x.number < n
    below = ⊎_elim (λ l. l) (λ l. absurd (not_none (front s x j found) x (back s x j found) (sym (copies_own s x j found) ∙ (st.fresh x.number l).none))) (cases_lt x.number n)

    abbrev number_low : x.number < length all
    number_low = let b = below in omega (arith, b, few)

    -- for its own packet what is so, and for the others what was
    rebuilt : (s' : Net) (h' : ℕ → ℕ) (hs' : List Happening) → s'.injected ≡ s.injected → ((w : ℕ) → HoldsInOrder t before w (s'.stores w) h') → ((q : ℕ) → h' q ≤ n) → ((i : ℕ) → x.number ≢ i → Same i s s' hs hs')
        → ((i r : ℕ) → x.number ≢ i → Passed h i r → Passed h' i r) → (Underway x.number s' h' hs' ⊎ Gone x.number s' h' hs') → State n s' h' hs'
    rebuilt s' h' hs' count held most others passed own = record {
      count = count ∙ st.count;
      held = held;
      most = most;
      each = λ i l. by i l (nat_eq x.number i) refl;
      fresh = λ i l. unseen_still (others i (λ e. (let b = below in omega (arith, e, b, l)))) (st.fresh i l);
    }
      where
        by : (i : ℕ) → i < n → (b : Bool) → nat_eq x.number i ≡ b → Underway i s' h' hs' ⊎ Gone i s' h' hs'
        by i l true is = subst (λ y. Underway y s' h' hs' ⊎ Gone y s' h' hs') (eqb-true x.number i is) own
        by i l false isnt = let ne = eqb-false x.number i isnt in each_still (others i ne) (λ r a. passed i r ne a) (st.each i l)

    -- ---- a copy that hasn't forked
    module _ (u : Underway x.number s h hs) where
      alone : (front s x j found ≡ []) × (x ≡ u.copy) × (back s x j found ≡ [])
      alone = only_one (front s x j found) x u.copy (back s x j found) (sym (copies_own s x j found) ∙ u.only)

      pub stands : Stands x.number x.at x.head u.rank
      stands = subst (λ (y : Copy). Stands x.number y.at y.head u.rank) (sym alone.1) u.stands

      pub packet : x.packet ≡ pick x.number
      packet = ap (λ (y : Copy). y.packet) alone.1 ∙ u.packet

      -- it is sent on before rank r
      sent_on : (m : Arrays) (h' : ℕ → ℕ) (y r v first : ℕ) → Enters t (pick x.number) (before x.number) first → Chained t (pick x.number) (before x.number) first r v → Passed h' x.number r
          → Underway x.number (stepped s j x m (Forward y (Visit r v))) h' (hs ++ happening x (Forward y (Visit r v)) ∷ [])
      sent_on m h' y r v first enters chained passed =
          let c : Copy = record x { at = y; head = Visit r v; hops = x.hops + 1; steps = x.steps + 1 } in
          record {
            quiet = quiet_more x.number hs _ u.quiet (record { deliveries = refl; losses = refl });
            copy = c;
            only = copies_moved s x j found m (Forward y (Visit r v)) (c ∷ []) (ap (λ b. cond b (c ∷ []) []) (eq-eqb x.number x.number refl)) ∙ (λ z. alone.0 z ++ c ∷ alone.2 z);
            packet = packet;
            rank = r;
            stands = visiting enters chained;
            passed = passed;
          }

      -- it stays before rank r
      stayed : (m : Arrays) (h' : ℕ → ℕ) (r v first : ℕ) → Enters t (pick x.number) (before x.number) first → Chained t (pick x.number) (before x.number) first r v → Passed h' x.number r
          → Underway x.number (visited (record { net = s; handled = h }) j x m h' (Waiting r v)).net h' (hs ++ [])
      stayed m h' r v first enters chained passed = record {
        quiet = quiet_more x.number hs [] u.quiet (record { deliveries = refl; losses = refl });
        copy = staying x r v;
        only = replaced_own s x j found (staying x r v) refl ∙ (λ z. alone.0 z ++ staying x r v ∷ alone.2 z);
        packet = packet;
        rank = r;
        stands = visiting enters chained;
        passed = passed;
      }

      -- it forks as evaluation says
      split_up_so : (m : Arrays) (h' : ℕ → ℕ) (copies : List Sent) (lost : ℕ) → ((o : Meaning) → eval p.body (before x.number) (pick x.number) ≡ Some o → (copies ≡ sent_of t o.packets) × (lost ≡ lost_of t o.packets)) → Passed h' x.number (ranks t)
          → Gone x.number (stepped s j x m (Fork copies lost)) h' (hs ++ happening x (Fork copies lost) ∷ [])
      split_up_so m h' copies lost so passed = record {
        leaving = λ o e.
            (let is = so o e in
            let same : Fork (sent_of t o.packets) (lost_of t o.packets) ≡ Fork copies lost = λ z. Fork (sym is.0 z) (sym is.1 z) in
            subst (λ a. Leaving t x.number o.packets (stepped s j x m a) (hs ++ happening x a ∷ [])) same (leaving_begins s x j found t o.packets hs m alone.0 alone.2 u.quiet));
        passed = passed;
      }

    -- ---- without a visit
    others_step : (m : Arrays) (a : Action) (i : ℕ) → x.number ≢ i → Same i s (stepped s j x m a) hs (hs ++ happening x a ∷ [])
    others_step m a i ne = others_same s x j found i m a hs ne

    no_visit : {m : Arrays} {a : Action} → ((r v : ℕ) → ¬ AwaitsVisit t s x r v) → Handles t x.at x.packet (s.stores x.at) x.head m a → Underway x.number s h hs ⊎ Gone x.number s h hs → State n (stepped s j x m a) h (hs ++ happening x a ∷ [])
    no_visit {m = m} {a = a} none does (inr g) =
        rebuilt (stepped s j x m a) h (hs ++ happening x a ∷ []) refl (held_after s x.at m h h st.held (same_store out) (λ w q ne at. refl)) st.most (others_step m a) (λ i r ne q. q)
        (inr (record { leaving = λ o e. leaving_on s x j found out (g.leaving o e); passed = g.passed }))
      where
        o : Acted x.number
        o = acted x.number number_low

        out : OutDoes (slice_index x.packet 1) (s.stores x.at) m a
        out = out_does (subst (λ y. Handles t x.at x.packet (s.stores x.at) y m a) (own_leaves s x j found ((g.leaving o.outcome o.is).out)) does)

        same_store : {b : Arrays} {d : Action} → OutDoes (slice_index x.packet 1) (s.stores x.at) b d → HoldsInOrder t before x.at b h
        same_store is_delivered = st.held x.at
        same_store is_carried = st.held x.at
    no_visit {m = m} {a = a} none does (inl u) = by (goes x.number x.at (s.stores x.at) (stands u) none_here (subst (λ k. Handles t x.at k (s.stores x.at) x.head m a) (packet u) does))
      where
        none_here : (r v : ℕ) → ComesTo t x.at (pick x.number) (s.stores x.at) x.head r v → rank_at t r ≡ Some x.at → ⊥
        none_here r v to own = none r v (record { comes = subst (λ k. ComesTo t x.at k (s.stores x.at) x.head r v) (sym (packet u)) to; owner = own })

        by : {m : Arrays} {a : Action} → Goes x.number (s.stores x.at) u.rank m a → State n (stepped s j x m a) h (hs ++ happening x a ∷ [])
        by (sends {y = y} {v = v} {first = first} enters chained) =
            rebuilt (stepped s j x (s.stores x.at) (Forward y (Visit u.rank v))) h (hs ++ happening x (Forward y (Visit u.rank v)) ∷ []) refl (held_after s x.at (s.stores x.at) h h st.held (st.held x.at) (λ w q ne at. refl)) st.most
            (others_step (s.stores x.at) (Forward y (Visit u.rank v))) (λ i r ne q. q) (inl (sent_on u (s.stores x.at) h y u.rank v first enters chained u.passed))
        by (splits w {v = v} {first = first} {us = us} {os = os} top enters chained row) =
            rebuilt (stepped s j x (s.stores x.at) (forked t os (pick x.number))) h (hs ++ happening x (forked t os (pick x.number)) ∷ []) refl (held_after s x.at (s.stores x.at) h h st.held (st.held x.at) (λ w q ne at. refl)) st.most
            (others_step (s.stores x.at) (forked t os (pick x.number))) (λ i r ne q. q)
            (inr
            (split_up_so u (s.stores x.at) h (sent_of t (results os (pick x.number))) (lost_of t (results os (pick x.number)))
            (λ o e.
            (let c = chain x.number number_low o e in
            c.forks w v us os (subst (λ y. Chained t (pick x.number) (before x.number) y (ranks t) v) (enters_one t (pick x.number) (before x.number) first c.first enters c.enters) (subst (λ r. Chained t (pick x.number) (before x.number) first r v) top chained)) row))
            (subst (Passed h x.number) top u.passed)))

    -- ---- visits in order
    in_order : {r v : ℕ} {m : Arrays} {h' : ℕ → ℕ} {b : Becomes} → AwaitsVisit t s x r v → h r ≡ x.number → TakesTurns t x.at x.packet x.number (s.stores x.at) h r v m h' b → Underway x.number s h hs ⊎ Gone x.number s h hs
        → State n (visited (record { net = s; handled = h }) j x m h' b).net h' (hs ++ happenings (turn_of x b ∷ []))
    in_order before_it turn takes (inr g) =
        let o = acted x.number number_low in
        absurd (both_ways _ (ap is_unforked (own_leaves s x j found ((g.leaving o.outcome o.is).out))) (comes_early before_it.comes))
    in_order {r = r} {v = v} {m = m} {h' = h'} {b = b} before_it turn takes (inl u) = by b keeps.1 (own_passed count (subst (Passed h x.number) to.rank u.passed)) (held_after s x.at m h h' st.held keeps.0 (elsewhere count)) (most_after count n below st.most)
      where
        o : Acted x.number
        o = acted x.number number_low

        mine : TakesTurns t x.at (pick x.number) x.number (s.stores x.at) h r v m h' b
        mine = subst (λ k. TakesTurns t x.at k x.number (s.stores x.at) h r v m h' b) (packet u) takes

        count : Counts t x.at (pick x.number) x.number r (rank_behind t b) h h'
        count = counts t x.at (pick x.number) x.number mine

        to : Comes x.number x.at (s.stores x.at) u.rank r v
        to = comes x.number x.at (s.stores x.at) (stands u) (subst (λ k. ComesTo t x.at k (s.stores x.at) x.head r v) (packet u) before_it.comes)

        keeps : HoldsInOrder t before x.at m h' × IsOnItsChain t (pick x.number) (before x.number) o.outcome to.first b × ((q : Place) → (StandsAt t x.at q.var → ⊥) → m q ≡ s.stores x.at q)
        keeps =
            let c = enters_at x.number number_low in
            faithful_turns p topology places t f version before x.number c.0 (pick x.number) o.outcome (after x.number).2 c.1 o.is (λ q. ap (λ (y : Arrays). y q) o.arrays) to.first to.enters x.at r v (s.stores x.at) m h h' b to.chained (st.held x.at) mine

        by : (b : Becomes) → IsOnItsChain t (pick x.number) (before x.number) o.outcome to.first b → Passed h' x.number (rank_behind t b)
            → ((w : ℕ) → HoldsInOrder t before w (cond (nat_eq w x.at) m (s.stores w)) h') → ((q : ℕ) → h' q ≤ n)
            → State n (visited (record { net = s; handled = h }) j x m h' b).net h' (hs ++ happenings (turn_of x b ∷ []))
        by (SentOn y q w) chained passed held most =
            rebuilt (stepped s j x m (Forward y (Visit q w))) h' (hs ++ happening x (Forward y (Visit q w)) ∷ []) refl held most (others_step m (Forward y (Visit q w))) (λ i r ne a. other_passed count i r ne a)
            (inl (sent_on u m h' y q w to.first to.enters chained passed))
        by (Waiting q w) chained passed held most =
            rebuilt (visited (record { net = s; handled = h }) j x m h' (Waiting q w)).net h' (hs ++ []) refl held most
            (λ i ne. record { copies = replaced_other s x j found (staying x q w) refl i ne; deliveries = ap (λ l. deliveries_of i l) (append-nil hs); losses = ap (λ l. losses_of i l) (append-nil hs) })
            (λ i r ne a. other_passed count i r ne a)
            (inl (stayed u m h' q w to.first to.enters chained passed))
        by (Forks copies lost) so passed held most =
            rebuilt (stepped s j x m (Fork copies lost)) h' (hs ++ happening x (Fork copies lost) ∷ []) refl held most (others_step m (Fork copies lost)) (λ i r ne a. other_passed count i r ne a)
            (inr
            (split_up_so u m h' copies lost
            (λ a e. (let same : o.outcome ≡ a = same_Some o.outcome a (sym o.is ∙ e) in (so.0 ∙ ap (λ (y : Meaning). sent_of t y.packets) same, so.1 ∙ ap (λ (y : Meaning). lost_of t y.packets) same))) passed))

  -- ---- runs
  one_step : (n : ℕ) → n ≤ length all → (s s' : Ordered) (hs : List Happening) (us : List OrderedHappening) (j : ℕ) → State n s.net s.handled hs → LeadsInOrder t s (Step j) s' us → State n s'.net s'.handled (hs ++ happenings us)
  one_step n few s s' hs us j st (moves {c = c} found none does) = no_visit n few s.net s.handled hs st c j found none does (st.each c.number (below n few s.net s.handled hs st c j found))
  one_step n few s s' hs us j st (visits {c = c} found at turn takes) = in_order n few s.net s.handled hs st c j found at turn takes (st.each c.number (below n few s.net s.handled hs st c j found))
  one_step n few s s' hs us j st (waits found at early) = subst (State n s.net s.handled) (sym (append-nil hs)) st

  pub all_events : (pre : List (List ℕ)) (hs : List Happening) {s s' : Ordered} {es : List Event} {us : List OrderedHappening} → pre ++ packets_in (packets_of es) ≡ all → State (length pre) s.net s.handled hs → RunsInOrder t s es s' us
      → State (length all) s'.net s'.handled (hs ++ happenings us)
  all_events pre hs {s = s} is st network.done =
      subst (λ n. State n s.net s.handled (hs ++ [])) (ap length (sym (append-nil pre) ∙ is)) (subst (State (length pre) s.net s.handled) (sym (append-nil hs)) st)
  all_events pre hs {s = s} {s' = s'} is st (network.on {e = Inject port k} {es = es} {hs = us} (injects {w = w} own names) rest) =
      all_events (pre ++ k ∷ []) hs (append_assoc pre (k ∷ []) (packets_in (packets_of es)) ∙ is)
      (subst (λ n. State n (injected s.net w port k) s.handled hs) (sym (length-append pre (k ∷ [])))
      (enter (length pre) s.net s.handled hs st w port k (ap (λ l. slice_index_or l (length pre) []) (sym is) ∙ picked_at pre k (packets_in (packets_of es))) own names)) rest
  all_events pre hs {s = s} {s' = s'} is st (network.on {s' = s1} {e = Step j} {es = es} {h = u} {hs = us} leads rest) =
      subst (State (length all) s'.net s'.handled) (append_assoc hs (happenings u) (happenings us) ∙ ap (λ l. hs ++ l) (sym (happenings_more u us)))
      (all_events pre (hs ++ happenings u) is
      (one_step (length pre) (let e = ap length is in let g = length-append pre (packets_in (packets_of es)) in omega (arith, e, g)) s s1 hs u j st leads) rest)
