-- A packet that is alone on its way never waits.
use Rattle.std.proofs.Common.{◌≡◌, ◌≢◌, ⊎_elim, ℕ, ◌+◌, ◌<◌, ◌≤◌, List, [], ◌∷◌, ◌++◌, take, drop, Some, refl, sym, ap, subst, ◌∙◌, arith}
use Rattle.std.specs.Prelude.{slice_get}
use Rattle.std.specs.List.{All}
use Rattle.std.proofs.lemmas.Bool.{both_ways, cases_lt}
use Rattle.std.proofs.lemmas.List.Elements.{All-append, All-cons, All-drop, All-map, All-nil, All-take}
use Rattle.std.proofs.lemmas.Option.{none-some, same_Some}
use Rattle.snap_core.specs.Arrays.{Arrays}
use Rattle.snap_rows.specs.Actions.{Action, Forward, Fork}
use Rattle.snap_rows.specs.declared.head.Head.{Head}
use Rattle.snap_rows.specs.declared.head.Head.TheVariants.{Walk, Stage, Out, Visit}
use Rattle.snap_rows.specs.declared.head.Sent.{Sent}
use Rattle.snap_rows.specs.declared.tables.Tables.{Tables}
use Rattle.snap_rows.specs.Entries.{rank_at, ranks}
use Rattle.snap_rows.specs.Handles as handles
use Rattle.snap_rows.specs.Handles.{Handles}
use Rattle.snap_rows.specs.Network.{Copy, Inject, Step, Leads, moved, step, stepped}
use Rattle.snap_rows.proofs.Later.{rank_is_below}
use Rattle.snap_rows.proofs.Rows.{All-get}
use Rattle.snap_faithful.specs.InOrder.{Becomes, SentOn, Waiting, Forks, TakesTurns}
use Rattle.snap_faithful.specs.InOrder as turn
use Rattle.snap_faithful.proofs.SingleOwnerRuns.{is_unforked}
use Rattle.snap_faithful.proofs.Nodes.{IsTwo, WalkDoes, visits_first, forks_at_once, walk_does, OutDoes, is_delivered, is_carried, out_does}
use Rattle.snap_order.specs.Laws.{HasForked}
use Rattle.snap_rows.specs.Stepping.{ComesTo, visit, walk}
use Rattle.snap_order.specs.Ordered.{Ordered, OrderedHappening, AwaitsVisit, LeadsInOrder, injects, moves, visits, waits, happenings, visited, turn_of}
use Rattle.snap_order.specs.Serving.{IsRested, Serves, StandsBefore, comes, leaves}
use Rattle.snap_order.specs.Turning.{rank_behind}
use Rattle.snap_order.proofs.Overlap.{comes_early}
use Rattle.snap_order.proofs.Taking.{Counts, counts, turn_handles}

-- a head that comes to a visit stands before it
stands_same : {t : Tables} {w : ℕ} {k : List ℕ} {m : Arrays} {head : Head} {q n : ℕ} (r : ℕ) → ComesTo t w k m head q n → StandsBefore head r → q ≡ r
stands_same r visit stands = sym stands
stands_same r (walk some follow) stands = sym stands

-- a copy that stays isn't in order
stays_early : {t : Tables} {w : ℕ} {k : List ℕ} {i : ℕ} {s s' : Arrays} {h h' : ℕ → ℕ} {r n q v : ℕ} → TakesTurns t w k i s h r n s' h' (Waiting q v) → (rank_at t q ≡ Some w) × (h' q ≢ i)
stays_early (turn.waits own early) = (own, early)
stays_early (turn.visits own now made more rest) = stays_early rest

-- copies of a fork have forked
copies_forked : (c : Copy) (copies : List Sent) (lost : ℕ) → All HasForked (moved c (Fork copies lost))
copies_forked c copies lost = All-map HasForked (λ (x : Sent). record c { head = Out x.port; packet = x.packet; steps = c.steps + 1 }) copies (λ j d within. (_, refl))

replaced_forked : (cs : List Copy) (j : ℕ) (xs : List Copy) → All HasForked cs → All HasForked xs → All HasForked (take j cs ++ (xs ++ drop (j + 1) cs))
replaced_forked cs j xs all some = All-append HasForked (take j cs) (xs ++ drop (j + 1) cs) (All-take HasForked j cs all) (All-append HasForked xs (drop (j + 1) cs) some (All-drop HasForked (j + 1) cs all))

-- a head of a copy that has forked comes to no visit
pub forked_late : {t : Tables} {w : ℕ} {k : List ℕ} {m : Arrays} {q n : ℕ} (c : Copy) → HasForked c → ComesTo t w k m c.head q n → ⊥
forked_late c forked to = both_ways _ (ap is_unforked forked.1) (comes_early to)

module _ (t : Tables) (two : IsTwo t) (i : ℕ) where
  -- what a copy that is before no visit does
  pub data Passes (r : ℕ) (m : Arrays) : Arrays → Action → Type 0 where
    sent_on : {y v : ℕ} → Passes r m m (Forward y (Visit r v))
    split_up : {m' : Arrays} {copies : List Sent} {lost : ℕ} → ranks t ≡ 0 → Passes r m m' (Fork copies lost)

  passes_visit : {w : ℕ} {k : List ℕ} {m m' : Arrays} {r n : ℕ} {a : Action} → (rank_at t r ≡ Some w → ⊥) → Handles t w k m (Visit r n) m' a → Passes r m m' a
  passes_visit none (handles.seeks own away) = sent_on
  passes_visit none (handles.visits own made more rest) = absurd (none own)
  passes_visit none (handles.concludes own made last row) = absurd (none own)

  passes_walk : {w : ℕ} {k : List ℕ} {m m' : Arrays} {n : ℕ} {a : Action} → ((q v : ℕ) → ComesTo t w k m (Walk n) q v → rank_at t q ≡ Some w → ⊥) → WalkDoes t w k m n m' a → Passes 0 m m' a
  passes_walk none (visits_first {v = v} some follow rest) = passes_visit (none 0 v (walk some follow)) rest
  passes_walk none (forks_at_once no_ranks follow row) = split_up no_ranks

  pub passes : {w : ℕ} {k : List ℕ} {m m' : Arrays} {a : Action} (head : Head) (r : ℕ) → StandsBefore head r → ((q v : ℕ) → ComesTo t w k m head q v → rank_at t q ≡ Some w → ⊥) → Handles t w k m head m' a → Passes r m m' a
  passes {m = m} {m' = m'} {a = a} (Walk n) r stands none does = subst (λ q. Passes q m m' a) (sym stands) (passes_walk none (walk_does t two does))
  passes {m = m} {m' = m'} {a = a} (Visit q n) r stands none does = subst (λ q. Passes q m m' a) (sym stands) (passes_visit (none q n visit) does)
  passes (Stage n x) r stands none does = absurd stands
  passes (Out p) r stands none does = absurd stands

  module _ (s : Ordered) (c : Copy) (j : ℕ) (found : slice_get s.net.flying j ≡ Some c) (first : j ≡ 0) where
    -- ---- it comes to its visits
    module _ (d : Copy) (r : ℕ) (alone : s.net.flying ≡ d ∷ []) (number : d.number ≡ i) (stands : StandsBefore d.head r) (low : (q : ℕ) → q < r → s.handled q ≡ i + 1) (high : (q : ℕ) → r ≤ q → q < ranks t → s.handled q ≡ i) where
      same : d ≡ c
      same = same_Some d c (ap (λ l. slice_get l 0) (sym alone) ∙ ap (slice_get s.net.flying) (sym first) ∙ found)

      own : c.number ≡ i
      own = ap (λ (x : Copy). x.number) (sym same) ∙ number

      here : StandsBefore c.head r
      here = subst (λ (x : Copy). StandsBefore x.head r) same stands

      left : (xs : List Copy) → take j s.net.flying ++ (xs ++ drop (j + 1) s.net.flying) ≡ xs ++ []
      left xs = (λ z. take (first z) (alone z) ++ (xs ++ drop (first z + 1) (alone z)))

      went : {m : Arrays} {a : Action} → Passes r (s.net.stores c.at) m a → Serves t i (record s { net = stepped s.net j c m a })
      went (sent_on {y = y} {v = v}) = comes (left (moved c (Forward y (Visit r v)))) own refl low high
      went (split_up {copies = copies} {lost = lost} none) =
          leaves (subst (All HasForked) (sym (left (moved c (Fork copies lost)))) (All-append HasForked (moved c (Fork copies lost)) [] (copies_forked c copies lost) (All-nil HasForked))) (λ q below. absurd (omega (arith, below, none)))

      turned : {q n : ℕ} {m : Arrays} {h' : ℕ → ℕ} {b : Becomes} → AwaitsVisit t s.net c q n → TakesTurns t c.at c.packet c.number (s.net.stores c.at) s.handled q n m h' b
          → Serves t i (visited s j c m h' b) × Leads t s.net (Step j) (visited s j c m h' b).net (happenings (turn_of c b ∷ []))
      turned {q = q} {n = n} {m = m} {h' = h'} {b = b} before takes = by b takes (counts t c.at c.packet c.number takes)
        where
          at : q ≡ r
          at = stands_same r before.comes here

          handled_below : (e : ℕ) → Counts t c.at c.packet c.number q e s.handled h' → (x : ℕ) → x < e → h' x ≡ i + 1
          handled_below e count x below = ⊎_elim
              (λ (less : x < q). count.low x less ∙ low x (omega (arith, less, at)))
              (λ (more : q ≤ x). (count.mine x more below).2 ∙ ap (λ n. n + 1) own)
              (cases_lt x q)

          handled_above : (e : ℕ) → Counts t c.at c.packet c.number q e s.handled h' → (x : ℕ) → e ≤ x → x < ranks t → h' x ≡ i
          handled_above e count x above within = count.high x above ∙ high x (let up = count.up in omega (arith, above, up, at)) within

          by : (b : Becomes) → TakesTurns t c.at c.packet c.number (s.net.stores c.at) s.handled q n m h' b → Counts t c.at c.packet c.number q (rank_behind t b) s.handled h'
              → Serves t i (visited s j c m h' b) × Leads t s.net (Step j) (visited s j c m h' b).net (happenings (turn_of c b ∷ []))
          by (SentOn y x v) takes count = (
            comes (left (moved c (Forward y (Visit x v)))) own refl (handled_below x count) (handled_above x count),
            step found (turn_handles t c.at c.packet c.number two.version before.comes takes (Forward y (Visit x v)) refl),
          )
          by (Waiting x v) takes count =
              let e = stays_early takes in
              absurd (e.1 (handled_above x count x (omega arith) (rank_is_below t x c.at e.0) ∙ sym own))
          by (Forks copies lost) takes count = (
            leaves (subst (All HasForked) (sym (left (moved c (Fork copies lost)))) (All-append HasForked (moved c (Fork copies lost)) [] (copies_forked c copies lost) (All-nil HasForked))) (handled_below (ranks t) count),
            step found (turn_handles t c.at c.packet c.number two.version before.comes takes (Fork copies lost) refl),
          )

      in_time : {q n : ℕ} → AwaitsVisit t s.net c q n → s.handled q ≡ c.number
      in_time {q = q} before = high q (let at = stands_same r before.comes here in omega (arith, at)) (rank_is_below t q c.at before.owner) ∙ sym own

    -- ---- it is on its way to a port
    carried : {m : Arrays} {a : Action} → All HasForked s.net.flying → ((q : ℕ) → q < ranks t → s.handled q ≡ i + 1) → (p : ℕ) → OutDoes p (s.net.stores c.at) m a → Serves t i (record s { net = stepped s.net j c m a })
    carried all handled p is_delivered = leaves (replaced_forked s.net.flying j [] all (All-nil HasForked)) handled
    carried all handled p (is_carried {x = x}) =
        let y : Copy = record c { at = x; head = Out p; hops = c.hops + 1; steps = c.steps + 1 } in
        leaves (replaced_forked s.net.flying j (y ∷ []) all (All-cons HasForked y [] (p, refl) (All-nil HasForked))) handled

  pub serves_step : {s s' : Ordered} {j : ℕ} {us : List OrderedHappening} → j ≡ 0 → LeadsInOrder t s (Step j) s' us → Serves t i s → Serves t i s' × Leads t s.net (Step j) s'.net (happenings us)
  serves_step {s = s} {j = j} first (moves {c = c} found none does) (comes {c = d} {r = r} alone number stands low high) = (
    went s c j found first d r alone number stands low high
        (passes c.head r (here s c j found first d r alone number stands low high) (λ q v to own. none q v (record { comes = to; owner = own })) does),
    step found does,
  )
  serves_step {s = s} {j = j} first (moves {c = c} {m = m} {a = a} found none does) (leaves all handled) =
      let forked = All-get HasForked s.net.flying j c all found in (
        carried s c j found first all handled forked.0 (out_does (subst (λ head. Handles t c.at c.packet (s.net.stores c.at) head m a) forked.1 does)),
        step found does,
      )
  serves_step {s = s} {j = j} first (visits {c = c} found before now takes) (comes {c = d} {r = r} alone number stands low high) = turned s c j found first d r alone number stands low high before takes
  serves_step {s = s} {j = j} first (visits {c = c} found before now takes) (leaves all handled) = absurd (forked_late c (All-get HasForked s.net.flying j c all found) before.comes)
  serves_step {s = s} {j = j} first (waits {c = c} found before early) (comes {c = d} {r = r} alone number stands low high) = absurd (early (in_time s c j found first d r alone number stands low high before))
  serves_step {s = s} {j = j} first (waits {c = c} found before early) (leaves all handled) = absurd (forked_late c (All-get HasForked s.net.flying j c all found) before.comes)

-- a packet that comes in when each rank has handled all others
pub serves_first : {t : Tables} {s s' : Ordered} {port : ℕ} {k : List ℕ} {us : List OrderedHappening} → s.net.flying ≡ [] → IsRested t s → LeadsInOrder t s (Inject port k) s' us → Serves t s.net.injected s' × (s'.net.injected ≡ s.net.injected + 1)
serves_first {s = s} {k = k} none rested (injects {w = w} at first) =
    let c : Copy = record { number = s.net.injected; at = w; head = Walk 0; packet = k; hops = 0; steps = 0 } in
    (comes {c = c} {r = 0} (ap (λ l. l ++ c ∷ []) none) refl refl (λ q less. absurd (omega (arith, less))) (λ q more within. rested q within), refl)

-- where it has come to rest each rank has handled it too
pub serves_last : {t : Tables} {s : Ordered} (i : ℕ) → Serves t i s → s.net.flying ≡ [] → s.net.injected ≡ i + 1 → IsRested t s
serves_last i (comes {c = c} alone number stands low high) none count = absurd (none-some c (ap (λ l. slice_get l 0) (sym none ∙ alone)))
serves_last i (leaves all handled) none count = λ q within. handled q within ∙ sym count
