-- A round made step by step.
use Rattle.std.proofs.Common.{◌≡◌, ℕ, ◌+◌, ◌<◌, ◌≤◌, List, [], ◌∷◌, ◌++◌, Some, drop, get_or, length, map, take, refl, sym, ap, subst, ◌∙◌, arith}
use Rattle.std.specs.Prelude.{slice_get}
use Rattle.std.proofs.lemmas.List.{length-append, length-map, map-append}
use Rattle.snap_rows.specs.declared.tables.Tables.{Tables}
use Rattle.snap_rows.specs.Network.{Copy, RunsBy, Step, done, moved}
use Rattle.snap_rows.proofs.Runs.{runs-then}
use Rattle.snap_net.specs.Shown.{flown}
use Rattle.snap_faithful.proofs.Leaving.{split_up}
use Rattle.snap_runs.proofs.Steps.{shown}
use Rattle.snap_net.specs.declared.happened.Moved.{Moved}
use Rattle.snap_order.specs.Ordered.{Ordered, OrderedHappening, LeadsInOrder, left_by, moves, visits, waits}
use Rattle.snap_order.specs.Rounding.{HasRoundedTo, IsRoundDone}
use Rattle.snap_order.specs.Rounds.{TakesNext, takes}
use Rattle.snap_order.specs.Shown.{SimulatesInOrder, OrderedNetView, RepresentsInOrder, TellsTurn, told_of}

pub rounded_first : (v : OrderedNetView) (s : Ordered) → RepresentsInOrder v s → HasRoundedTo v.net.tables s 0 v []
rounded_first v s shows = record { state = s; events = []; turns = []; run = done; shows = shows; told = refl; within = omega arith }

flying_shown : (v : OrderedNetView) (s : Ordered) → RepresentsInOrder v s → length v.net.flying ≡ length s.net.flying
flying_shown v s shows = sym (ap length shows.net.flying) ∙ length-map s.net.flying flown

-- a state that the network shows
some_state : (v : OrderedNetView) → (s : Ordered) × RepresentsInOrder v s
some_state v = let s = shown v.net in (record { net = s.0; handled = λ r. get_or v.counts r 0 }, record { net = s.1; handled = λ r. refl })

few_replaced : (list : List Copy) (i : ℕ) (c : Copy) (xs : List Copy) → slice_get list i ≡ Some c → length list ≤ length (take i list ++ (xs ++ drop (i + 1) list)) + 1
few_replaced list i c xs found =
    let a = ap length (split_up list i c found) in
    let b = length-append (take i list) (c ∷ drop (i + 1) list) in
    let d = length-append (take i list) (xs ++ drop (i + 1) list) in
    let e = length-append xs (drop (i + 1) list) in
    omega (arith, a, b, d, e)

module _ (t : Tables) (s : Ordered) (place : ℕ) (mid new : OrderedNetView) (done : List Moved) (told : Moved) (same : mid.net.tables ≡ t) (does : SimulatesInOrder mid (Step place) new (TellsTurn told)) (below : place < length mid.net.flying) where
  pub rounded_more : (next : ℕ) → next + length mid.net.flying ≡ place + 1 + length new.net.flying → HasRoundedTo t s place mid done → HasRoundedTo t s next new (done ++ told ∷ [])
  rounded_more next counted h =
      let d = subst (λ t'. (s' : Ordered) × (ts : List OrderedHappening) × LeadsInOrder t' h.state (Step place) s' ts × RepresentsInOrder new s' × TellsTurn told ts) same (does h.state h.shows) in
      let a = flying_shown mid h.state h.shows in
      let b = flying_shown new d.0 d.3 in
      let last : told ∷ [] ≡ map told_of d.1 = ap (λ x. x ∷ []) d.4.2 ∙ ap (map told_of) (sym d.4.1) in
      record {
        state = d.0;
        events = h.events ++ Step place ∷ [];
        turns = h.turns ++ d.1;
        run = runs-then (Step place) (next, d.0) d.1 h.run (takes d.2 (omega (arith, a, b, counted)));
        shows = d.3;
        told = (λ i. h.told i ++ last i) ∙ sym (map-append told_of h.turns d.1);
        within = omega (arith, a, b, counted, below);
      }

pub rounded_all : (old now : OrderedNetView) (told : List Moved) (place : ℕ) → length now.net.flying ≤ place → ((s : Ordered) → RepresentsInOrder old s → HasRoundedTo old.net.tables s place now told) → IsRoundDone old now told
rounded_all old now told place over so s shows =
    let h = so s shows in
    let a = flying_shown now h.state h.shows in
    let low = h.within in
    let at : place ≡ length h.state.net.flying = omega (arith, a, low, over) in (
      h.state,
      h.events,
      h.turns,
      subst (λ i. RunsBy (TakesNext old.net.tables) (0, s) h.events (i, h.state) h.turns) at h.run,
      h.shows,
      h.told,
    )

-- a step takes one copy away at most
few_lost : {t : Tables} {s s' : Ordered} {j : ℕ} {us : List OrderedHappening} → LeadsInOrder t s (Step j) s' us → length s.net.flying ≤ length s'.net.flying + 1
few_lost {s = s} (moves {i = i} {c = c} {a = a} found none does) = few_replaced s.net.flying i c (moved c a) found
few_lost {s = s} (visits {i = i} {c = c} {b = b} found before now taking) = few_replaced s.net.flying i c (left_by c b) found
few_lost (waits found before late) = omega arith

pub few_gone : (place : ℕ) (mid new : OrderedNetView) (told : Moved) → SimulatesInOrder mid (Step place) new (TellsTurn told) → place < length mid.net.flying → length mid.net.flying ≤ length new.net.flying + 1
few_gone place mid new told does below =
    let s = some_state mid in
    let d = does s.0 s.1 in
    let a = flying_shown mid s.0 s.1 in
    let b = flying_shown new d.0 d.3 in
    let e = few_lost d.2 in
    omega (arith, a, b, e)
