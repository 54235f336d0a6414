-- How far copies get in runs in order.
use Rattle.std.proofs.Common.{◌≡◌, ◌≢◌, ℕ, ◌+◌, ◌-◌, ◌*◌, ◌<◌, ◌≤◌, List, [], ◌∷◌, ◌++◌, take, drop, length, map, Some, refl, sym, ap, subst, ◌∙◌, arith}
use Rattle.std.specs.Prelude.{option_map, unwrap_or}
use Rattle.std.specs.List.{All}
use Rattle.std.proofs.Math.Nat.{suc-mul}
use Rattle.std.proofs.lemmas.Nat.{mul-le}
use Rattle.std.proofs.lemmas.List.{length-map}
use Rattle.std.proofs.lemmas.List.Elements.{All-nil, All-cons, All-head, All-tail, All-append, All-take, All-drop, All-weaker}
use Rattle.std.proofs.lemmas.Option.{slice_get_within}
use Rattle.snap_core.specs.declared.program.Program.{Program}
use Rattle.snap_core.specs.Arrays.{Arrays}
use Rattle.snap_dep.specs.Ranks.{IsRank}
use Rattle.snap_topology.specs.Walks.{Linked, IsNext, IsDiameter}
use Rattle.snap_topology.specs.declared.topology.Topology.{Topology}
use Rattle.snap_rows.specs.declared.tables.ArrayAt.{ArrayAt}
use Rattle.snap_rows.specs.declared.tables.Tables.{Tables}
use Rattle.snap_rows.specs.Actions.{Action, Forward, Deliver, Fork}
use Rattle.snap_rows.specs.declared.head.Head.{Head}
use Rattle.snap_rows.specs.declared.head.Head.TheVariants.{Walk, Stage, Out, Visit}
use Rattle.snap_rows.specs.declared.head.Sent.{Sent}
use Rattle.snap_rows.specs.Entries.{next, rank_at, ranks}
use Rattle.snap_rows.specs.Form.{switch_count}
use Rattle.snap_rows.specs.Handles.{Handles}
use Rattle.snap_rows.specs.Network.{Net, Copy, Event, Happening, Crossed, Delivered, Forked, done, on, step, moved, happening}
use Rattle.snap_rows.proofs.Later.{rank_is_below}
use Rattle.snap_rows.proofs.Rows.{All-get}
use Rattle.snap_faithful.specs.Faithful.{Faithful}
use Rattle.snap_faithful.specs.InOrder.{Becomes, SentOn, Waiting, Forks, TakesTurns}
use Rattle.snap_faithful.proofs.Bounds.{HasDistances, HeadWithin, CopyWithin, one_step, few}
use Rattle.snap_faithful.proofs.Far.{ranks_few}
use Rattle.snap_faithful.proofs.Leaving.{split_off}
use Rattle.snap_faithful.proofs.Nodes.{IsTwo}
use Rattle.snap_rows.specs.Stepping.{ComesTo, visit, walk}
use Rattle.snap_order.specs.Ordered.{Ordered, OrderedHappening, left_by, turn_of, LeadsInOrder, injects, moves, visits, waits, RunsInOrder, happenings}
use Rattle.snap_order.specs.Laws.{IsDeliveredWithin, Overlaps}
use Rattle.snap_order.proofs.Near.{near, distances}
use Rattle.snap_order.proofs.Overlap.{happenings_more}
use Rattle.snap_order.proofs.Taking.{acts, turn_handles, stays_here}

-- the steps of a copy that has stayed nowhere
abbrev steps_for : ℕ → Head → ℕ
steps_for hops (Walk n) = 0
steps_for hops (Stage n i) = 0
steps_for hops (Visit r n) = hops
steps_for hops (Out p) = hops + 1

abbrev unstayed : Copy → Copy
unstayed c = record c { steps = steps_for c.hops c.head }

module _ (t : Tables) (two : IsTwo t) (dist : ℕ → ℕ → ℕ) (d : ℕ) (far : HasDistances t dist d) where
  abbrev most : ℕ
  most = (ranks t + 1) * d

  abbrev Within : Copy → Type 0
  Within c = CopyWithin t dist d (unstayed c)

  settle : (c : Copy) → CopyWithin t dist d c → Within c
  settle c is = record { at = is.at; head = by c.head is.head }
    where
      by : (head : Head) → HeadWithin t dist d c.at c.hops c.steps head → HeadWithin t dist d c.at c.hops (steps_for c.hops head) head
      by (Walk n) i = (i.0, refl)
      by (Stage n j) i = absurd i
      by (Visit r n) i = (refl, i.1, i.2)
      by (Out p) i = (refl, i.1)

  few_hops : (c : Copy) → Within c → c.hops ≤ most
  few_hops c is = (few t two dist d far c.at c.hops (steps_for c.hops c.head) c.head is.head).0

  happens_within : (c : Copy) (a : Action) → Within c → All (IsDeliveredWithin most) (happening c a ∷ [])
  happens_within c a is = All-cons (IsDeliveredWithin most) (happening c a) [] (by a) (All-nil (IsDeliveredWithin most))
    where
      by : (a : Action) → IsDeliveredWithin most (happening c a)
      by (Forward to head) = tt
      by (Deliver port) = few_hops c is
      by (Fork copies lost) = tt

  forks_within : (c : Copy) (copies : List Sent) → All (CopyWithin t dist d) (map (split_off (unstayed c)) copies ++ []) → All Within (map (split_off c) copies)
  forks_within c [] all = All-nil Within
  forks_within c (x ∷ xs) all =
      All-cons Within (split_off c x) (map (split_off c) xs) (settle (split_off (unstayed c) x) (All-head (CopyWithin t dist d) (split_off (unstayed c) x) (map (split_off (unstayed c)) xs ++ []) all))
      (forks_within c xs (All-tail (CopyWithin t dist d) (split_off (unstayed c) x) (map (split_off (unstayed c)) xs ++ []) all))

  moved_within : (c : Copy) (a : Action) → All (CopyWithin t dist d) (moved (unstayed c) a ++ []) → All Within (moved c a)
  moved_within c (Forward to head) all = All-cons Within _ [] (settle _ (All-head (CopyWithin t dist d) _ [] all)) (All-nil Within)
  moved_within c (Deliver port) all = All-nil Within
  moved_within c (Fork copies lost) all = forks_within c copies all

  -- a step without order
  handled_within : (c : Copy) (s m : Arrays) (a : Action) → Within c → Handles t c.at c.packet s c.head m a → All Within (moved c a)
  handled_within c s m a is does =
      let alone : Net = record { stores = λ w. s; injected = 0; flying = unstayed c ∷ [] } in
      moved_within c a (one_step t two dist d far {s = alone} (step {i = 0} {c = unstayed c} {m = m} {a = a} refl does) (All-cons (CopyWithin t dist d) (unstayed c) [] is (All-nil (CopyWithin t dist d)))).0

  -- what a copy that comes to a visit has made
  room_left : (c : Copy) (s : Arrays) {head : Head} {r n : ℕ} → ComesTo t c.at c.packet s head r n → HeadWithin t dist d c.at c.hops (steps_for c.hops head) head → c.hops + (ranks t - r) * d ≤ most
  room_left c s visit i = let x = i.2.2 in omega (arith, x)
  room_left c s (walk some follow) i = let x = i.0 in let y = mul-le (ranks t - 0) d (ranks t + 1) d (omega arith) (omega arith) in omega (arith, x, y)

  -- a copy that stays after visits
  stayed_within : (c : Copy) (s : Arrays) (r n q v : ℕ) → Within c → ComesTo t c.at c.packet s c.head r n → rank_at t r ≡ Some c.at → r < q → rank_at t q ≡ Some c.at → Within (record c { head = Visit q v; steps = c.steps + 1 })
  stayed_within c s r n q v is to own up here = record { at = is.at; head = (refl, rank_is_below t q c.at here, (c.at, here, room)) }
    where
      less : (ranks t - q) * d + d ≤ (ranks t - r) * d
      less =
          let low = rank_is_below t q c.at here in
          let a = mul-le (ranks t - q) d (ranks t - (r + 1)) d (omega (arith, up)) (omega arith) in
          let b : (ranks t - r) * d ≡ (ranks t - (r + 1)) * d + d = ap (λ n. n * d) (omega (arith, up, low)) ∙ suc-mul (ranks t - (r + 1)) d in
          omega (arith, a, b)

      room : c.hops + dist c.at c.at + (ranks t - q) * d ≤ most
      room = let a = room_left c s to is.head in let b = far.most c.at c.at in let e = less in omega (arith, a, b, e)

  replaced_within : (s : Net) (i : ℕ) (xs : List Copy) → All Within s.flying → All Within xs → All Within (take i s.flying ++ (xs ++ drop (i + 1) s.flying))
  replaced_within s i xs all some = All-append Within (take i s.flying) (xs ++ drop (i + 1) s.flying) (All-take Within i s.flying all) (All-append Within xs (drop (i + 1) s.flying) some (All-drop Within (i + 1) s.flying all))

  leads_within : {s s' : Ordered} {e : Event} {us : List OrderedHappening} → LeadsInOrder t s e s' us → All Within s.net.flying → All Within s'.net.flying × All (IsDeliveredWithin most) (happenings us)
  leads_within {s = s} (injects {port = p} {w = w} own names) all =
      (All-append Within s.net.flying _ all (All-cons Within _ [] (record { at = far.ports p w own; head = (refl, refl) }) (All-nil Within)), All-nil (IsDeliveredWithin most))
  leads_within {s = s} (moves {i = i} {c = c} {m = m} {a = a} found none does) all =
      let mine = All-get Within s.net.flying i c all found in
      (replaced_within s.net i (moved c a) all (handled_within c (s.net.stores c.at) m a mine does), happens_within c a mine)
  leads_within {s = s} (visits {i = i} {c = c} {r = r} {n = n} {m = m} {h = h} {b = b} found at turn takes) all = by b takes
    where
      mine : Within c
      mine = All-get Within s.net.flying i c all found

      acted : {b : Becomes} (a : Action) → TakesTurns t c.at c.packet c.number (s.net.stores c.at) s.handled r n m h b → acts t c.at c.packet c.number b ≡ Some a → All Within (moved c a)
      acted a takes is = handled_within c (s.net.stores c.at) m a mine (turn_handles t c.at c.packet c.number two.version at.comes takes a is)

      by : (b : Becomes) → TakesTurns t c.at c.packet c.number (s.net.stores c.at) s.handled r n m h b → All Within (take i s.net.flying ++ (left_by c b ++ drop (i + 1) s.net.flying)) × All (IsDeliveredWithin most) (happenings (turn_of c b ∷ []))
      by (SentOn y q v) takes = (replaced_within s.net i (left_by c (SentOn y q v)) all (acted (Forward y (Visit q v)) takes refl), happens_within c (Forward y (Visit q v)) mine)
      by (Forks copies lost) takes = (replaced_within s.net i (left_by c (Forks copies lost)) all (acted (Fork copies lost) takes refl), happens_within c (Fork copies lost) mine)
      by (Waiting q v) takes =
          let here = stays_here t c.at c.packet c.number turn takes in
          (replaced_within s.net i (left_by c (Waiting q v)) all (All-cons Within _ [] (stayed_within c (s.net.stores c.at) r n q v mine at.comes at.owner (let up : r + 1 ≤ q = here.0 in omega (arith, up)) here.1) (All-nil Within)), All-nil (IsDeliveredWithin most))
  leads_within (waits found at early) all = (all, All-nil (IsDeliveredWithin most))

  runs_within : {s s' : Ordered} {es : List Event} {us : List OrderedHappening} → RunsInOrder t s es s' us → All Within s.net.flying → All Within s'.net.flying × All (IsDeliveredWithin most) (happenings us)
  runs_within done all = (all, All-nil (IsDeliveredWithin most))
  runs_within (on {h = u} {hs = us} leads rest) all =
      let first = leads_within leads all in
      let more = runs_within rest first.0 in
      (more.0, subst (All (IsDeliveredWithin most)) (sym (happenings_more u us)) (All-append (IsDeliveredWithin most) (happenings u) (happenings us) first.1 more.1))

still_within : (a b : ℕ) → a ≤ b → (h : Happening) → IsDeliveredWithin a h → IsDeliveredWithin b h
still_within a b le (Delivered c port) i = let x : c.hops ≤ a = i in omega (arith, x, le)
still_within a b le (Crossed c x h) i = tt
still_within a b le (Forked c n x) i = tt

pub few_hops_made : (p : Program) (topology : Topology) (places : List ℕ) (t : Tables) → Faithful p topology places t → t.version ≡ 2 → (order : List ℕ) (d : ℕ) → IsRank p.body (length p.arrays) order → IsDiameter (Linked topology.links) (length topology.switches) d
    → (m : Arrays) (es : List Event) (s : Ordered) (us : List OrderedHappening) → Overlaps p t m es s us
    → All (λ (c : Copy). c.hops ≤ (length order + 1) * d) s.net.flying × All (IsDeliveredWithin ((length order + 1) * d)) (happenings us)
few_hops_made p topology places t f version order d rank diameter m es s us o =
    let two : IsTwo t = record { form = f.shape.form; valid = f.shape.valid; version = version } in
    let count : length topology.switches ≡ switch_count t = sym (ap length f.shape.switches) in
    let hops = subst (λ n. (a b : ℕ) → a < n → b < n → a ≢ b → IsNext (Linked topology.links) a b (next t a b)) count f.shape.hops in
    let far = distances t two (Linked topology.links) hops d (subst (λ n. IsDiameter (Linked topology.links) n d) count diameter) in
    let dist = near t two (Linked topology.links) hops in
    let within = runs_within t two dist d far o.run (All-nil (λ c. CopyWithin t dist d (unstayed c))) in
    let fewer : ranks t ≤ length order = ranks_few t.arrays (length order)
    (λ i a e.
    (let many = sym (length-map t.arrays (λ (a : ArrayAt). a.name)) ∙ ap length f.shape.names in
    let low = (f.shape.ranks version order rank).below i (let l = slice_get_within t.arrays i a e in omega (arith, l, many)) in
    subst (λ x. x < length order) (ap (λ o. unwrap_or (option_map (λ (a : ArrayAt). a.rank) o) 0) e) low)) in
    let more = mul-le (ranks t + 1) d (length order + 1) d (omega (arith, fewer)) (omega arith) in (
      All-weaker (λ c. CopyWithin t dist d (unstayed c)) (λ (c : Copy). c.hops ≤ (length order + 1) * d) (λ c i. (let x = few_hops t two dist d far c i in omega (arith, x, more))) s.net.flying within.0,
      All-weaker (IsDeliveredWithin ((ranks t + 1) * d)) (IsDeliveredWithin ((length order + 1) * d)) (still_within ((ranks t + 1) * d) ((length order + 1) * d) more) (happenings us) within.1,
    )
