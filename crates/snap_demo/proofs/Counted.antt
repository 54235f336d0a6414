-- What is counted of a run, packet by packet.
use Rattle.std.proofs.Common.{◌≡◌, ℕ, zero, suc, ◌+◌, ◌<◌, List, [], ◌∷◌, ◌++◌, map, length, Some, refl, sym, ap, subst, ◌∙◌, arith, add-one, append-nil, length-append}
use Rattle.std.specs.Prelude.{slice_get, slice_index, sum, sum_by}
use Rattle.std.specs.List.{All, range_with_len}
use Rattle.std.proofs.lemmas.List.{map-append}
use Rattle.std.proofs.lemmas.List.Elements.{All-append, All-nil, All-weaker}
use Rattle.std.proofs.lemmas.List.Sums.{sum_by-cons}
use Rattle.snap_core.specs.Arrays.{zero_arrays}
use Rattle.snap_rows.specs.declared.head.Sent.{Sent}
use Rattle.snap_rows.specs.Happenings.{deliveries_of, losses_of, number_of}
use Rattle.snap_rows.specs.Network.{Happening, Inject, IsPlainRun, rests, start}
use Rattle.snap_net.specs.Passing.{IsHeard, IsTold, Passes}
use Rattle.snap_net.specs.Shown.{NetView, Represents}
use Rattle.snap_rows.proofs.Happenings.{deliveries_of-append, losses_of-append}
use Rattle.snap_runs.specs.Plain.{entering}
use Rattle.snap_runs.specs.Reports.{packets_delivered}
use Rattle.snap_runs.proofs.Blocks.{earlier-elsewhere, later-elsewhere}
use Rattle.snap_runs.proofs.Happenings.{HappenElsewhere, deliveries_of-others, losses_of-others}
use Rattle.snap_runs.proofs.Runs.{plain-then}
use Rattle.snap_demo.specs.declared.counts.PacketCounts.{PacketCounts}
use Rattle.snap_demo.specs.Runs.{HasRun, RunsOn, delivered_of, lost_of}

-- ---- sums over ranges
module _ (f : ℕ → ℕ) where
  sum-more : (a n : ℕ) → sum_by f (range_with_len a (suc n)) ≡ sum_by f (range_with_len a n) + f (a + n)
  sum-more a zero =
      let e = sum_by-cons f a [] in
      let h : f a ≡ f (a + 0) = ap f (let i : a ≡ a + 0 = omega arith in i) in
      omega (arith, e, h)
  sum-more a (suc n) =
      let e = sum_by-cons f a (range_with_len (a + 1) (suc n)) in
      let g = sum_by-cons f a (range_with_len (a + 1) n) in
      let more = sum-more (a + 1) n in
      let h : f (a + 1 + n) ≡ f (a + suc n) = ap f (let i : a + 1 + n ≡ a + suc n = omega arith in i) in
      omega (arith, e, g, more, h)

  sum-same : (g : ℕ → ℕ) (a n : ℕ) → ((i : ℕ) → i < a + n → f i ≡ g i) → sum_by f (range_with_len a n) ≡ sum_by g (range_with_len a n)
  sum-same g a zero same = refl
  sum-same g a (suc n) same =
      sum_by-cons f a (range_with_len (a + 1) n)
      ∙ (λ i. same a (let l : a < a + suc n = omega arith in l) i + sum-same g (a + 1) n (λ j less. same j (omega arith)) i)
      ∙ sym (sum_by-cons g a (range_with_len (a + 1) n))

-- what is summed for each number is summed for the element of a list with that number
pub sum-listed : {X : Type 0} (f : ℕ → ℕ) (g : X → ℕ) (xs : List X) (a : ℕ) → ((j : ℕ) (x : X) → slice_get xs j ≡ Some x → f (a + j) ≡ g x) → sum_by f (range_with_len a (length xs)) ≡ sum_by g xs
sum-listed f g [] a same = refl
sum-listed f g (x ∷ xs) a same =
    sum_by-cons f a (range_with_len (a + 1) (length xs))
    ∙ (λ i. first i + sum-listed f g xs (a + 1) (λ j y is. others j y is) i)
    ∙ sym (sum_by-cons g x xs)
  where
    first : f a ≡ g x
    first = ap f (let e : a ≡ a + 0 = omega arith in e) ∙ same 0 x refl

    others : (j : ℕ) (y : _) → slice_get xs j ≡ Some y → f (a + 1 + j) ≡ g y
    others j y is = ap f (let e : a + 1 + j ≡ a + suc j = omega arith in e) ∙ same (suc j) y is

-- ---- two parts of a run
module _ (i : ℕ) (hs gs : List Happening) where
  packets : List Sent → List (List ℕ)
  packets = map (λ (x : Sent). x.packet)

  delivered-front : HappenElsewhere i gs → packets_delivered i (hs ++ gs) ≡ packets_delivered i hs
  delivered-front other = ap (map (λ (x : Sent). x.packet)) (deliveries_of-append i hs gs ∙ ap (λ l. deliveries_of i hs ++ l) (deliveries_of-others i gs other) ∙ append-nil (deliveries_of i hs))

  delivered-behind : HappenElsewhere i hs → packets_delivered i (hs ++ gs) ≡ packets_delivered i gs
  delivered-behind other = ap (map (λ (x : Sent). x.packet)) (deliveries_of-append i hs gs ∙ ap (λ l. l ++ deliveries_of i gs) (deliveries_of-others i hs other))

  losses-front : HappenElsewhere i gs → losses_of i (hs ++ gs) ≡ losses_of i hs
  losses-front other = losses_of-append i hs gs ∙ ap (λ l. losses_of i hs ++ l) (losses_of-others i gs other) ∙ append-nil (losses_of i hs)

  losses-behind : HappenElsewhere i hs → losses_of i (hs ++ gs) ≡ losses_of i gs
  losses-behind other = losses_of-append i hs gs ∙ ap (λ l. l ++ losses_of i gs) (losses_of-others i hs other)

module _ (n : ℕ) (hs gs : List Happening) (before : All (λ h. number_of h < n) hs) (happen : All (λ h. number_of h ≡ n) gs) where
  delivered_of-more : delivered_of (n + 1) (hs ++ gs) ≡ delivered_of n hs + length (packets_delivered n gs)
  delivered_of-more =
      let f : ℕ → ℕ = λ i. length (packets_delivered i (hs ++ gs)) in
      ap (λ m. delivered_of m (hs ++ gs)) (add-one n)
      ∙ sum-more f 0 n
      ∙ (λ j. sum-same f (λ i. length (packets_delivered i hs)) 0 n (λ i less. ap length (delivered-front i hs gs (later-elsewhere n hs gs before happen i (omega (arith, less))))) j + f (let e : 0 + n ≡ n = omega arith in e j))
      ∙ ap (λ l. delivered_of n hs + length l) (delivered-behind n hs gs (earlier-elsewhere n hs gs before happen))

  lost_of-more : lost_of (n + 1) (hs ++ gs) ≡ lost_of n hs + sum (losses_of n gs)
  lost_of-more =
      let f : ℕ → ℕ = λ i. sum (losses_of i (hs ++ gs)) in
      ap (λ m. lost_of m (hs ++ gs)) (add-one n)
      ∙ sum-more f 0 n
      ∙ (λ j. sum-same f (λ i. sum (losses_of i hs)) 0 n (λ i less. ap sum (losses-front i hs gs (later-elsewhere n hs gs before happen i (omega (arith, less))))) j + f (let e : 0 + n ≡ n = omega arith in e j))
      ∙ ap (λ l. lost_of n hs + sum l) (losses-behind n hs gs (earlier-elsewhere n hs gs before happen))

-- ---- the run
-- before the first packet
pub has_run-none : (v : NetView) (c : PacketCounts) → c.delivered ≡ 0 → c.lost ≡ 0 → Represents v (start v.tables zero_arrays) → HasRun [] v c
has_run-none v c d l shows = record {
  events = [];
  state = start v.tables zero_arrays;
  happenings = [];
  run = record { packets = refl; first = λ i d within. absurd (let h : i < 0 = within in omega arith); run = rests; ended = refl };
  shows = shows;
  injected = refl;
  before = All-nil (λ h. number_of h < 0);
  delivered = d;
  lost = l;
}

-- a packet passes, and what went out of it is counted
module _ {V : Type 0} {saw : V → List Happening → V → Type 0} {a b : V} (port : ℕ) (k : List ℕ) (old new : NetView) (sent : List (List ℕ)) (lost : ℕ) (before after : PacketCounts) where
  pub runs-on : slice_index k 0 ≡ port → new.tables ≡ old.tables → Passes port k old new (IsHeard saw old.injected a b sent lost) → after.delivered ≡ before.delivered + length sent → after.lost ≡ before.lost + lost → RunsOn k old before new after
  runs-on first kept passes delivers loses ks h =
      let n = length ks in
      let p = passes h.state h.shows in
      let told : IsTold n sent lost p.happenings = subst (λ i. IsTold i sent lost p.happenings) (sym h.shows.injected ∙ h.injected) p.tells.told in
      let longer : length (ks ++ k ∷ []) ≡ n + 1 = length-append ks (k ∷ []) in
      let events = h.events ++ Inject port k ∷ p.events in
      let happenings = h.happenings ++ p.happenings in
      let run : IsPlainRun old.tables zero_arrays (entering ks ++ (port, k) ∷ []) events p.state happenings =
      plain-then old.tables zero_arrays (entering ks) h.events h.state h.happenings h.run port k p.events p.state p.happenings p.no_packets p.first p.run p.rests in
      let enters : entering ks ++ (port, k) ∷ [] ≡ entering (ks ++ k ∷ []) = ap (λ q. entering ks ++ (q, k) ∷ []) (sym first) ∙ sym (map-append (λ x. (slice_index x 0, x)) ks (k ∷ [])) in
      record {
        events = events;
        state = p.state;
        happenings = happenings;
        run = subst (λ t. IsPlainRun t zero_arrays (entering (ks ++ k ∷ [])) events p.state happenings) (sym kept) (subst (λ l. IsPlainRun old.tables zero_arrays l events p.state happenings) enters run);
        shows = p.shows;
        injected = p.injected ∙ ap (λ m. m + 1) h.injected ∙ sym longer;
        before = subst (λ m. All (λ h. number_of h < m) happenings) (sym longer)
            (All-append (λ h. number_of h < n + 1) h.happenings p.happenings
            (All-weaker (λ h. number_of h < n) (λ h. number_of h < n + 1) (λ h less. omega (arith, less)) h.happenings h.before)
            (All-weaker (λ h. number_of h ≡ n) (λ h. number_of h < n + 1) (λ h is. omega (arith, is)) p.happenings told.happen));
        delivered = delivers ∙ (λ i. h.delivered i + length (sym told.sent_is i)) ∙ sym (delivered_of-more n h.happenings p.happenings h.before told.happen) ∙ ap (λ m. delivered_of m happenings) (sym longer);
        lost = loses ∙ (λ i. h.lost i + sym told.lost_is i) ∙ sym (lost_of-more n h.happenings p.happenings h.before told.happen) ∙ ap (λ m. lost_of m happenings) (sym longer);
      }
