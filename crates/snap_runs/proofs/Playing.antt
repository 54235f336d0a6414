-- How the run of a network over a schedule goes on.
use Rattle.std.proofs.Common.{◌≡◌, ℕ, ◌<◌, Bool, true, List, [], ◌∷◌, ◌++◌, Some, length, reverse, refl, sym, ap, subst, ◌∙◌}
use Rattle.std.specs.Prelude.{if◌then◌else◌}
use Rattle.std.specs.List.{All}
use Rattle.std.proofs.lemmas.List.{length-map, length-reverse, reverse-append, reverse-reverse}
use Rattle.std.proofs.lemmas.List.Sorted.{All-permutation, IsPermutation-reverse}
use Rattle.std.proofs.lemmas.List.Elements.{All-head, All-nil, All-pop}
use Rattle.snap_core.specs.Arrays.{zero_arrays}
use Rattle.snap_rows.specs.declared.tables.Tables.{Tables}
use Rattle.snap_rows.specs.Form.{comps}
use Rattle.snap_rows.specs.Happenings.{number_of}
use Rattle.snap_rows.specs.Network.{Copy, Net, Inject, Step, Happening, Leads, start}
use Rattle.snap_net.specs.declared.flying.Flying.{Flying}
use Rattle.snap_net.specs.declared.happened.Moved.{Moved}
use Rattle.snap_net.specs.Shown.{Simulates, IsNetView, Nothing, Represents, StandsThere, TellsMoved, moving}
use Rattle.snap_net.proofs.Steps.{stands_there}
use Rattle.snap_runs.specs.declared.frames.Frames.TheVariants.{Plain}
use Rattle.snap_runs.specs.declared.play.Play.{Play}
use Rattle.snap_runs.specs.declared.ready.Ready.{Ready}
use Rattle.snap_runs.specs.declared.tally.Tally.{Tally}
use Rattle.snap_runs.specs.Playing.{AreTallied, HasNoted, IsReady, Plays, left_in, packets_in}
use Rattle.snap_runs.specs.Runner.{HasInjected, HasStepped, IsPlaying}
use Rattle.snap_runs.specs.Tallies.{IsThere, line_after, number_by}
use Rattle.snap_runs.proofs.Steps.{held-shown, inject-numbers, step-injected, step-long, step-numbers}
use Rattle.snap_runs.proofs.Tallied.{is-there, number_by-moving, tallied-first, tallied-injected, tallied-moved}

-- ---- packets that wait
pub left-first : (packets waiting : List Ready) → waiting ≡ reverse packets → packets_in (reverse waiting) ≡ packets_in packets
left-first packets waiting is = ap packets_in (ap reverse is ∙ reverse-reverse packets)

pub left-count : (waiting : List Ready) → length (packets_in (reverse waiting)) ≡ length waiting
left-count waiting = length-map (reverse waiting) (λ (r : Ready). r.packet) ∙ length-reverse waiting

pub left-next : (waiting rest left : List Ready) (r : Ready) → waiting ≡ rest ++ r ∷ [] → left ≡ rest → packets_in (reverse waiting) ≡ r.packet ∷ packets_in (reverse left)
left-next waiting rest left r stood is = ap (λ ws. packets_in (reverse ws)) stood ∙ ap packets_in (reverse-append rest (r ∷ [])) ∙ ap (λ ws. r.packet ∷ packets_in (reverse ws)) (sym is)

pub ready-first : (t : Tables) (packets waiting : List Ready) → waiting ≡ reverse packets → All (IsReady t) packets → All (IsReady t) waiting
ready-first t packets waiting is ready = subst (All (IsReady t)) (sym is) (All-permutation (IsReady t) packets (reverse packets) (IsPermutation-reverse packets) ready)

-- ---- before the first event
pub plays-first : (t : Tables) (hops : Bool) (packets : List Ready) (v : Play) → v.net.tables ≡ t → v.hops ≡ hops → Represents v.net (start t zero_arrays) → v.tallies.items ≡ [] → v.waiting.items ≡ reverse packets → All (IsReady t) packets
    → Plays t hops (start t zero_arrays) [] v
plays-first t hops packets v tables same shows none waiting ready = record {
  tables = tables;
  hops_same = same;
  shows = shows;
  below = All-nil (λ (c : Copy). c.number < 0);
  tallies = tallied-first Plain t hops v.tallies.items none;
  ready = ready-first t packets v.waiting.items waiting ready;
}

-- ---- the next packet is injected
module _ (old new : Play) (r : Ready) (rest : List Ready) (y : Tally) (stood : old.waiting.items ≡ rest ++ r ∷ []) (left : new.waiting.items ≡ rest) (does : Simulates old.net (Inject r.port r.packet) new.net Nothing)
    (same : new.net.tables ≡ old.net.tables) (same_hops : new.hops ≡ old.hops) (more : new.tallies.items ≡ old.tallies.items ++ y ∷ []) (d : y.delivered.items ≡ []) (l : y.lost ≡ 0) (h : y.hops.items ≡ []) where
  pub plays-inject : HasInjected Leads Plays left_in old new true
  plays-inject t hops s hs p =
      let a = subst (λ t'. (s' : Net) × (gs : List Happening) × Leads t' s (Inject r.port r.packet) s' gs × Represents new.net s' × (gs ≡ [])) p.tables (does s p.shows) in
      let numbers = inject-numbers t s a.0 r.port r.packet a.1 p.below a.2 in
      let popped = All-pop (IsReady t) old.waiting.items rest (Some r) stood p.ready in
      record {
        packet = r.packet;
        next = left-next old.waiting.items rest new.waiting.items r stood left;
        state = a.0;
        leads = subst (λ q. Leads t s (Inject q r.packet) a.0 []) (sym popped.1.first) (subst (Leads t s (Inject r.port r.packet) a.0) a.4 a.2);
        plays = record {
          tables = same ∙ p.tables;
          hops_same = same_hops ∙ p.hops_same;
          shows = a.3;
          below = numbers.0;
          tallies = tallied-injected Plain t hops s.injected hs old.tallies.items new.tallies.items p.tallies y more d l h a.0.injected numbers.1;
          ready = subst (All (IsReady t)) (sym left) popped.0;
        };
      }

-- ---- a copy makes a step
module _ (old new : Play) (place : ℕ) (m : Moved) (does : Simulates old.net (Step place) new.net (TellsMoved m)) where
  -- it stands at the place, if it crossed a link
  stands : (s' : Net) (hs : List Happening) (s : Net) (x : Happening) → Leads old.net.tables s (Step place) s' hs → hs ≡ x ∷ [] → Represents new.net s' → StandsThere new.net.flying place x
  stands s' hs s x leads one shows = subst (λ cs. StandsThere cs place x) shows.flying (stands_there x leads one)

  -- its packet has a tally
  pub number-below : IsPlaying Plays old → number_by m < length old.tallies.items
  number-below playing =
      let s = playing.2 in
      let p = playing.4 in
      let a = does s p.shows in
      let x = a.4.0 in
      let numbers = step-numbers (λ n. n < s.injected) old.net.tables s a.0 place a.1 p.below a.2 in
      let here : number_of x < s.injected = All-head (λ h. number_of h < s.injected) x [] (subst (All (λ h. number_of h < s.injected)) a.4.1 numbers.1) in
      subst (λ i. i < length old.tallies.items) (sym (ap number_by a.4.2 ∙ number_by-moving x)) (subst (λ n. number_of x < n) (sym p.tallies.counted) here)

  pub moved-there : IsPlaying Plays old → IsThere new.net.flying place m
  moved-there playing =
      let s = playing.2 in
      let a = does s playing.4.shows in
      subst (IsThere new.net.flying place) (sym a.4.2) (is-there new.net.flying place a.4.0 (stands a.0 a.1 s a.4.0 a.2 a.4.1 a.3))

  module _ (held : IsNetView old.net) (notes : HasNoted (if old.hops then line_after Plain new.net.tables.switches new.net.flying place m else []) m old.tallies.items new.tallies.items) (same : new.net.tables ≡ old.net.tables) (same_hops : new.hops ≡ old.hops) (still : new.waiting.items ≡ old.waiting.items) where
    pub plays-step : HasStepped Leads Plays left_in (λ (s : Net). s) place old new true
    plays-step t hops s hs p =
        let n = s.injected in
        let a = does s p.shows in
        let x = a.4.0 in
        let leads = subst (λ t'. Leads t' s (Step place) a.0 (x ∷ [])) p.tables (subst (Leads old.net.tables s (Step place) a.0) a.4.1 a.2) in
        let inj : a.0.injected ≡ n = step-injected t s a.0 place (x ∷ []) leads in
        let numbers = step-numbers (λ k. k < n) t s a.0 place (x ∷ []) p.below leads in
        let packets = held-shown (λ (c : Flying). length c.packet ≡ comps t) old.net s p.shows (subst (λ t'. All (λ (c : Flying). length c.packet ≡ comps t') old.net.flying) p.tables held.packets) in
        let noted = subst (λ b. HasNoted (if b then line_after Plain t.switches new.net.flying place (moving x) else []) (moving x) old.tallies.items new.tallies.items) p.hops_same
        (subst (λ (t' : Tables). HasNoted (if old.hops then line_after Plain t'.switches new.net.flying place (moving x) else []) (moving x) old.tallies.items new.tallies.items) (same ∙ p.tables)
        (subst (λ k. HasNoted (if old.hops then line_after Plain new.net.tables.switches new.net.flying place k else []) k old.tallies.items new.tallies.items) a.4.2 notes)) in
        record {
          left = ap (λ ws. packets_in (reverse ws)) still;
          state = a.0;
          turns = x ∷ [];
          leads = leads;
          plays = record {
            tables = same ∙ p.tables;
            hops_same = same_hops ∙ p.hops_same;
            shows = a.3;
            below = subst (λ k. All (λ (c : Copy). c.number < k) a.0.flying) (sym inj) numbers.0;
            tallies = subst (λ k. AreTallied Plain t hops k (hs ++ x ∷ []) new.tallies.items) (sym inj)
                (tallied-moved Plain t hops n hs old.tallies.items new.tallies.items p.tallies x numbers.1 new.net.flying place (stands a.0 a.1 s x a.2 a.4.1 a.3) noted (step-long t s a.0 place (comps t) (x ∷ []) packets leads x refl));
            ready = subst (All (IsReady t)) (sym still) p.ready;
          };
        }
