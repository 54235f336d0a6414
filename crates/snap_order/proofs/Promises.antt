-- What runs in order over faithful tables promise: arrays, ends, and who waits.
use Rattle.std.proofs.Common.{◌≡◌, ℕ, zero, suc, ◌<◌, ◌≤◌, ⊎_elim, Bool, true, false, cond, List, [], ◌∷◌, take, length, Some, refl, sym, ap, subst, ◌∙◌, arith}
use Rattle.std.specs.Prelude.{slice_get, nat_eq}
use Rattle.std.specs.List.{filter}
use Rattle.std.proofs.lemmas.Bool.{both_ways, eqb-true, cases_lt}
use Rattle.std.proofs.lemmas.List.{length-map, take_all}
use Rattle.std.proofs.lemmas.List.Sorted.{IsPermutation-refl}
use Rattle.std.proofs.lemmas.Option.{none-some, same_Some, slice_get_within}
use Rattle.snap_core.specs.declared.place.Place.{Place}
use Rattle.snap_core.specs.declared.program.Program.{Program}
use Rattle.snap_core.specs.Arrays.{Arrays}
use Rattle.snap_core.specs.Inputs.{IsZeroFrom}
use Rattle.snap_core.specs.Packets.{PacketSet}
use Rattle.snap_core.specs.Switch.{Switched, one_big_switch}
use Rattle.snap_topology.specs.declared.topology.Topology.{Topology}
use Rattle.snap_rows.specs.declared.tables.ArrayAt.{ArrayAt}
use Rattle.snap_rows.specs.declared.tables.Tables.{Tables}
use Rattle.snap_rows.specs.declared.head.Head.{Head}
use Rattle.snap_rows.specs.declared.head.Head.TheVariants.{Out}
use Rattle.snap_rows.specs.Entries.{rank_of, ranks}
use Rattle.snap_rows.specs.Form.{array_count}
use Rattle.snap_rows.specs.Network.{Copy, Event, Step, Happening, happening, packets_of, start, global_store}
use Rattle.snap_rows.proofs.Later.{rank_is_below, var_array, ranks_above}
use Rattle.snap_faithful.specs.Agreement.{CameOut, numbered}
use Rattle.snap_faithful.specs.Faithful.{Faithful, IsStoreOf, packets_in, AgreesAsInjected}
use Rattle.snap_faithful.proofs.Leaving.{copies_of, came_out, own_leaves}
use Rattle.snap_faithful.proofs.SingleOwnerRuns.{is_unforked}
use Rattle.snap_faithful.proofs.Nodes.{IsTwo}
use Rattle.snap_faithful.proofs.Switching.{number_at, picks_all}
use Rattle.snap_faithful.proofs.Whole.{starts, whole_holds}
use Rattle.snap_faithful.proofs.Turning.{faithful-two}
use Rattle.snap_rows.specs.Stepping.{ComesTo}
use Rattle.snap_order.specs.Ordered.{Ordered, OrderedHappening, Happens, Waits, AwaitsVisit, turn_of, LeadsInOrder, moves, visits, waits, happenings}
use Rattle.snap_order.specs.Laws.{Overlaps, IsBehind, IsLeast}
use Rattle.snap_order.proofs.Able.{no_wait, visits_on}
use Rattle.snap_order.proofs.Overlap as overlap
use Rattle.snap_order.proofs.Overlap.{all_events, comes_early}
use Rattle.snap_order.proofs.Taking.{same_rank}

-- ---- lists and numbers
reaches : (n x : ℕ) → ((i : ℕ) → i < n → i < x) → n ≤ x
reaches zero x each = omega arith
reaches (suc n) x each = let h = each n (omega arith) in omega (arith, h)

kept : {A : Type 0} (p : A → Bool) (xs : List A) (y : A) (ys : List A) → filter p xs ≡ y ∷ ys → (i : ℕ) × (slice_get xs i ≡ Some y) × (p y ≡ true)
kept p [] y ys e = absurd (none-some y (ap (λ l. slice_get l 0) e))
kept {A = A} p (x ∷ xs) y ys e = by (p x) refl e (kept p xs y ys)
  where
    by : (b : Bool) → p x ≡ b → cond b (x ∷ filter p xs) (filter p xs) ≡ y ∷ ys → (filter p xs ≡ y ∷ ys → (i : ℕ) × (slice_get xs i ≡ Some y) × (p y ≡ true)) → (i : ℕ) × (slice_get (x ∷ xs) i ≡ Some y) × (p y ≡ true)
    by true is e rest = let same = same_Some x y (ap (λ l. slice_get l 0) e) in (zero, ap Some same, ap p (sym same) ∙ is)
    by false isnt e rest = let r = rest e in (suc r.0, r.1, r.2)

-- ---- turns
late : {head : Head} → is_unforked head ≡ true → ((port : ℕ) × (head ≡ Out port)) → ⊥
late early out = both_ways _ (ap is_unforked out.1) early

module _ (p : Program) (topology : Topology) (places : List ℕ) (t : Tables) (f : Faithful p topology places t) (version : t.version ≡ 2) (m : Arrays) (es : List Event) (s : Ordered) (us : List OrderedHappening) (o : Overlaps p t m es s us) where
  two : IsTwo t
  two = faithful-two f version

  abbrev all : List (List ℕ)
  all = packets_in (packets_of es)

  abbrev after : (i : ℕ) → (end : Switched) × (one_big_switch p.body m (take i all) ≡ Some end) × IsStoreOf p end.arrays
  after i = overlap.after p topology places t f version m o.store (packets_of es) o.packets i

  zeros : (i : ℕ) → IsZeroFrom (array_count t) (after i).0.arrays
  zeros i q l = (after i).2.only q (let e = sym (length-map t.arrays (λ (a : ArrayAt). a.name)) ∙ ap length f.shape.names in omega (arith, l, e))

  abbrev State : ℕ → Ordered → List Happening → Type 0
  State n s hs = overlap.State p topology places t f version m o.store (packets_of es) o.packets n s.net s.handled hs

  first : State 0 (record { net = start t m; handled = λ r. 0 }) []
  first = record {
    count = refl;
    held = λ w q at.
        (let same : m ≡ (after 0).0.arrays = ap (λ (x : Switched). x.arrays) (same_Some (record { packets = []; arrays = m }) _ (after 0).1) in
        starts t two m (λ q l. ap (λ (x : Arrays). x q) same ∙ zeros 0 q l) w q at ∙ ap (λ (x : Arrays). x q) same);
    most = λ q. omega arith;
    each = λ i l. absurd (omega (arith, l));
    fresh = λ i l. record { quiet = record { deliveries = refl; losses = refl }; none = refl };
  }

  -- where all packets are
  end : State (length all) s (happenings us)
  end = all_events p topology places t f version m o.store (packets_of es) o.packets [] [] refl first o.run

  -- ---- arrays
  arrays : (q : Place) → global_store t s.net q ≡ (after (s.handled (rank_of t q.var))).0.arrays q
  arrays q = whole_holds t two s.net (λ q. (after (s.handled (rank_of t q.var))).0.arrays q) end.held (λ q l. zeros (s.handled (rank_of t q.var)) q l) q

  pub arrays_in_order : (q : Place) → (x : Switched) × (one_big_switch p.body m (take (s.handled (rank_of t q.var)) all) ≡ Some x) × (global_store t s.net q ≡ x.arrays q)
  arrays_in_order q = let a = after (s.handled (rank_of t q.var)) in (a.0, a.1, arrays q)

  -- ---- ends
  module _ (none : s.net.flying ≡ []) where
    gone : (i : ℕ) → i < length all → overlap.Gone p topology places t f version m o.store (packets_of es) o.packets i s.net s.handled (happenings us)
    gone i l = ⊎_elim (λ u. absurd (none-some u.copy (ap (λ l. slice_get l 0) (sym (ap (copies_of i) none) ∙ u.only)))) (λ g. g) (end.each i l)

    all_handled : (q : Place) → (after (s.handled (rank_of t q.var))).0.arrays q ≡ (after (length all)).0.arrays q
    all_handled q = ⊎_elim
        (λ within.
        (let a = var_array t q.var within in
        let low : rank_of t q.var < ranks t = (let x = ranks_above t.arrays q.var a.0 a.1 in let y = a.2 in omega (arith, x, y)) in
        let all_of_them = reaches (length all) (s.handled (rank_of t q.var)) (λ i l. (gone i l).passed.past (rank_of t q.var) low) in
        let most = end.most (rank_of t q.var) in
        ap (λ n. (after n).0.arrays q) (let e : s.handled (rank_of t q.var) ≡ length all = omega (arith, all_of_them, most) in e)))
        (λ beyond. zeros (s.handled (rank_of t q.var)) q beyond ∙ sym (zeros (length all) q beyond))
        (cases_lt q.var (array_count t))

    came : (i : ℕ) (set : PacketSet) → slice_get (after (length all)).0.packets i ≡ Some set → CameOut t i set (happenings us)
    came i set g =
        let sets = overlap.sets p topology places t f version m o.store (packets_of es) o.packets (length all) (omega arith) in
        let l : i < length all = (let w = slice_get_within (after (length all)).0.packets i set g in let n = sets.0 in omega (arith, w, n)) in
        let a = overlap.acted p topology places t f version m o.store (packets_of es) o.packets i l in
        subst (λ x. CameOut t i x (happenings us)) (sym (sets.1 i set g a.outcome a.is)) (came_out none ((gone i l).leaving a.outcome a.is))

    pub agrees : AgreesAsInjected p t m (packets_of es) s.net (happenings us)
    agrees = record {
      each_once = IsPermutation-refl (numbered all);
      end = (after (length all)).0;
      switched = ap (one_big_switch p.body m) (picks_all all ∙ sym (take_all (length all) all (omega arith))) ∙ (after (length all)).1;
      packets = λ j i set e g. came i set (subst (λ x. slice_get (after (length all)).0.packets x ≡ Some set) (sym (number_at (length all) 0 j i e ∙ omega arith)) g);
      arrays = λ q. arrays q ∙ all_handled q;
    }

  -- ---- who waits
  module _ (i : ℕ) (c : Copy) (found : slice_get s.net.flying i ≡ Some c) where
    below : c.number < length all
    below = overlap.below p topology places t f version m o.store (packets_of es) o.packets (length all) (omega arith) s.net s.handled (happenings us) end c i found

    -- a rank has handled no more packets than came before a copy that is before its visit
    not_past : (r n : ℕ) → AwaitsVisit t s.net c r n → s.handled r ≤ c.number
    not_past r n at = ⊎_elim
        (λ u.
        (let stands = overlap.stands p topology places t f version m o.store (packets_of es) o.packets (length all) (omega arith) s.net s.handled (happenings us) end c i found u in
        let packet = overlap.packet p topology places t f version m o.store (packets_of es) o.packets (length all) (omega arith) s.net s.handled (happenings us) end c i found u in
        let to = overlap.comes p topology places t f version m o.store (packets_of es) o.packets c.number c.at (s.net.stores c.at) stands (subst (λ k. ComesTo t c.at k (s.net.stores c.at) c.head r n) packet at.comes) in
        u.passed.ahead r (let e = to.rank in omega (arith, e))))
        (λ g.
        (let a = overlap.acted p topology places t f version m o.store (packets_of es) o.packets c.number below in
        absurd (late (comes_early at.comes) (_, own_leaves s.net c i found ((g.leaving a.outcome a.is).out)))))
        (end.each c.number below)

    pub behind_waits : {s' : Ordered} {vs : List OrderedHappening} → LeadsInOrder t s (Step i) s' vs → IsBehind t s c → (r : ℕ) × (vs ≡ Waits c r ∷ [])
    behind_waits (moves {c = x} at none does) b = absurd (none b.rank b.number (subst (λ y. AwaitsVisit t s.net y b.rank b.number) (same_Some c x (sym found ∙ at)) b.before))
    behind_waits (visits {c = x} {r = r} {n = n} at before turn takes) b =
        let same = same_Some x c (sym at ∙ found) in
        let to = subst (λ y. AwaitsVisit t s.net y r n) same before in
        let rank = same_rank to.comes b.before.comes in
        absurd (let e = turn in let g = ap (λ (y : Copy). y.number) same in let h = ap s.handled rank in let l = b.fewer in omega (arith, e, g, h, l))
    behind_waits (waits {c = x} {r = r} at before early) b = (r, ap (λ y. Waits y r ∷ []) (same_Some x c (sym at ∙ found)))

    pub waits_behind : {s' : Ordered} {vs : List OrderedHappening} → LeadsInOrder t s (Step i) s' vs → (r : ℕ) → vs ≡ Waits c r ∷ [] → IsBehind t s c × (s' ≡ s)
    waits_behind (moves {c = x} {a = a} at none does) r e = absurd (no_wait (Happens (happening x a)) c r refl e)
    waits_behind (visits {c = x} {b = b} at before turn takes) r e = absurd (no_wait (turn_of x b) c r (visits_on x b) e)
    waits_behind (waits {c = x} {r = q} {n = n} at before early) r e =
        let same = same_Some x c (sym at ∙ found) in
        let to = subst (λ y. AwaitsVisit t s.net y q n) same before in
        (record { rank = q; number = n; before = to; fewer = (let a = not_past q n to in let b = ap (λ (y : Copy). y.number) same in omega (arith, a, b, early)) }, refl)

    pub least_goes_on : {s' : Ordered} {vs : List OrderedHappening} → IsLeast s c → LeadsInOrder t s (Step i) s' vs → (r : ℕ) → vs ≡ Waits c r ∷ [] → ⊥
    least_goes_on least leads r e =
        let b = (waits_behind leads r e).0 in
        let j = s.handled b.rank in
        ⊎_elim
        (λ u.
        (let k = kept (λ (x : Copy). nat_eq x.number j) s.net.flying u.copy [] u.only in
        let number = eqb-true u.copy.number j k.2 in
        let more = least k.0 u.copy k.1 (λ out. late (overlap.stands_early p topology places t f version m o.store (packets_of es) o.packets j u.copy.at u.copy.head u.rank u.stands) out) in
        let fewer = b.fewer in
        omega (arith, number, more, fewer)))
        (λ g. (let past = g.passed.past b.rank (rank_is_below t b.rank c.at b.before.owner) in omega (arith, past)))
        (end.each j (let l = below in let fewer = b.fewer in omega (arith, l, fewer)))
