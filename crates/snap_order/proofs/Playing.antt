-- How a run in order goes on.
use Rattle.std.proofs.Common.{◌≡◌, ℕ, ◌+◌, ◌<◌, Bool, true, false, List, [], ◌∷◌, ◌++◌, Some, get_or, take, drop, length, reverse, refl, sym, ap, subst, ◌∙◌, arith}
use Rattle.std.specs.List.{All}
use Rattle.std.proofs.lemmas.List.Elements.{All-append, All-cons, All-drop, All-nil, All-pop, All-push, All-take, All-weaker}
use Rattle.snap_core.specs.Arrays.{zero_arrays}
use Rattle.snap_rows.specs.Actions.{Action, Forward, Deliver, Fork}
use Rattle.snap_rows.specs.declared.head.Head.TheVariants.{Visit, Walk}
use Rattle.snap_rows.specs.declared.tables.Tables.{Tables}
use Rattle.snap_rows.specs.Form.{comps}
use Rattle.snap_rows.specs.Network.{Copy, Inject, Step, Crossed, Forked, happening, moved}
use Rattle.snap_rows.proofs.Rows.{All-get}
use Rattle.snap_net.specs.declared.flying.Flying.{Flying}
use Rattle.snap_net.specs.Shown.{IsNetView}
use Rattle.snap_faithful.specs.InOrder.{Becomes, SentOn, Waiting, Forks}
use Rattle.snap_runs.specs.declared.frames.Frames.TheVariants.{Numbered}
use Rattle.snap_runs.specs.declared.ready.Ready.{Ready}
use Rattle.snap_runs.specs.declared.tally.Tally.{Tally}
use Rattle.snap_runs.specs.Playing.{IsReady, packets_in}
use Rattle.snap_rows.specs.Happenings.{number_of}
use Rattle.snap_runs.proofs.Steps.{held-shown, moved_numbers, number_of-happening}
use Rattle.snap_runs.specs.Tallies.{IsThere, number_by}
use Rattle.snap_runs.specs.Runner.{HasInjected, HasStepped, IsPlaying}
use Rattle.snap_runs.proofs.Playing.{left-next, ready-first}
use Rattle.snap_runs.proofs.Tallied.{number_by-moving, tallied-first, tallied-injected}
use Rattle.snap_order.specs.declared.play.OrderedPlay.{OrderedPlay}
use Rattle.snap_net.specs.declared.happened.Moved.{Moved}
use Rattle.snap_order.specs.Ordered.{Ordered, OrderedHappening, Happens, Stays, Waits, LeadsInOrder, begin, happenings, injects, left_by, moves, turn_of, visits, waits}
use Rattle.snap_order.specs.Playing.{NotesTurn, NumberIsBelow, Plays, left_in}
use Rattle.snap_order.specs.Shown.{SimulatesInOrder, NoTurn, RepresentsInOrder, StandsTurn, TellsTurn, told_of}
use Rattle.snap_order.proofs.There.{turn_stands, turn_there}
use Rattle.snap_order.proofs.Tallied.{Tallied, step_long, tallied_turn}

-- ---- before the first event
pub plays_first : (t : Tables) (hops : Bool) (packets : List Ready) (v : OrderedPlay) → v.net.net.tables ≡ t → v.hops ≡ hops → RepresentsInOrder v.net (begin t zero_arrays) → v.tallies.items ≡ [] → v.waiting.items ≡ reverse packets → All (IsReady t) packets
    → Plays t hops (begin t zero_arrays) [] v
plays_first t hops packets v tables same shows none waiting ready = record {
  tables = tables;
  hops_same = same;
  shows = shows;
  below = All-nil (λ (c : Copy). c.number < 0);
  tallies = tallied-first Numbered t hops v.tallies.items none;
  ready = ready-first t packets v.waiting.items waiting ready;
}

-- ---- numbers of packets
-- of the copy to which a turn happens
abbrev number_in : OrderedHappening → ℕ
number_in (Happens h) = number_of h
number_in (Stays c r) = c.number
number_in (Waits c r) = c.number

number_told : (u : OrderedHappening) → number_in u ≡ number_by (told_of u)
number_told (Happens h) = sym (number_by-moving h)
number_told (Stays c r) = refl
number_told (Waits c r) = refl

number_made : (c : Copy) (a : Action) → number_of (happening c a) ≡ c.number
number_made c (Forward to head) = refl
number_made c (Deliver port) = refl
number_made c (Fork copies lost) = refl

number_turned : (c : Copy) (b : Becomes) → number_in (turn_of c b) ≡ c.number
number_turned c (SentOn to r n) = refl
number_turned c (Waiting r n) = refl
number_turned c (Forks copies lost) = refl

module _ (P : ℕ → Type 0) where
  left_numbers : (c : Copy) (b : Becomes) → P c.number → All (λ (d : Copy). P d.number) (left_by c b)
  left_numbers c (SentOn to r n) here = moved_numbers P c (Forward to (Visit r n)) here
  left_numbers c (Waiting r n) here = All-cons (λ (d : Copy). P d.number) _ [] here (All-nil (λ (d : Copy). P d.number))
  left_numbers c (Forks copies lost) here = moved_numbers P c (Fork copies lost) here

  -- of what happens in a turn
  number_of-turn : (c : Copy) (b : Becomes) → P c.number → All (λ h. P (number_of h)) (happenings (turn_of c b ∷ []))
  number_of-turn c (SentOn to r n) here = All-cons (λ h. P (number_of h)) (Crossed c to (Visit r n)) [] here (All-nil (λ h. P (number_of h)))
  number_of-turn c (Waiting r n) here = All-nil (λ h. P (number_of h))
  number_of-turn c (Forks copies lost) here = All-cons (λ h. P (number_of h)) (Forked c (length copies) lost) [] here (All-nil (λ h. P (number_of h)))

  replaced : (cs : List Copy) (k : ℕ) (xs : List Copy) → All (λ (c : Copy). P c.number) cs → All (λ (c : Copy). P c.number) xs → All (λ (c : Copy). P c.number) (take k cs ++ (xs ++ drop (k + 1) cs))
  replaced cs k xs all some =
      let Q : Copy → Type 0 = λ c. P c.number in
      All-append Q (take k cs) (xs ++ drop (k + 1) cs) (All-take Q k cs all) (All-append Q xs (drop (k + 1) cs) some (All-drop Q (k + 1) cs all))

  -- what holds of the numbers of all copies holds of the one to which a step happens, and of those behind it
  pub step_numbers : {t : Tables} {s s' : Ordered} {j : ℕ} {us : List OrderedHappening} → All (λ (c : Copy). P c.number) s.net.flying → LeadsInOrder t s (Step j) s' us → All (λ (c : Copy). P c.number) s'.net.flying × All (λ h. P (number_of h)) (happenings us)
  step_numbers {s = s} all (moves {i = i} {c = c} {a = a} is none handles) =
      let here : P c.number = All-get (λ (c : Copy). P c.number) s.net.flying i c all is in
      (replaced s.net.flying i (moved c a) all (moved_numbers P c a here), All-cons (λ h. P (number_of h)) (happening c a) [] (number_of-happening P c a here) (All-nil (λ h. P (number_of h))))
  step_numbers {s = s} all (visits {i = i} {c = c} {b = b} is before turn takes) =
      let here : P c.number = All-get (λ (c : Copy). P c.number) s.net.flying i c all is in
      (replaced s.net.flying i (left_by c b) all (left_numbers c b here), number_of-turn c b here)
  step_numbers all (waits is before early) = (all, All-nil (λ h. P (number_of h)))

-- so does of the packet of which it is told
turn_number_of : (P : ℕ → Type 0) (u v : OrderedHappening) (c : Copy) → P c.number → number_in u ≡ c.number → u ∷ [] ≡ v ∷ [] → P (number_by (told_of v))
turn_number_of P u v c here own same = subst P (sym own ∙ number_told u ∙ ap (λ w. number_by (told_of w)) (ap (λ l. get_or l 0 v) same)) here

pub turn_number : (P : ℕ → Type 0) {t : Tables} {s s' : Ordered} {j : ℕ} {us : List OrderedHappening} → All (λ (c : Copy). P c.number) s.net.flying → LeadsInOrder t s (Step j) s' us → (u : OrderedHappening) → us ≡ u ∷ [] → P (number_by (told_of u))
turn_number P {s = s} all (moves {i = i} {c = c} {a = a} is none handles) u one = turn_number_of P (Happens (happening c a)) u c (All-get (λ (c : Copy). P c.number) s.net.flying i c all is) (number_made c a) one
turn_number P {s = s} all (visits {i = i} {c = c} {b = b} is before turn takes) u one = turn_number_of P (turn_of c b) u c (All-get (λ (c : Copy). P c.number) s.net.flying i c all is) (number_turned c b) one
turn_number P {s = s} all (waits {i = i} {c = c} {r = r} is before early) u one = turn_number_of P (Waits c r) u c (All-get (λ (c : Copy). P c.number) s.net.flying i c all is) refl one

pub step_injected : {t : Tables} {s s' : Ordered} {j : ℕ} {us : List OrderedHappening} → LeadsInOrder t s (Step j) s' us → s'.net.injected ≡ s.net.injected
step_injected (moves is none handles) = refl
step_injected (visits is before turn takes) = refl
step_injected (waits is before early) = refl

-- an injected copy has the next number
inject_numbers : {t : Tables} {s s' : Ordered} {port : ℕ} {k : List ℕ} {us : List OrderedHappening} → All (λ (c : Copy). c.number < s.net.injected) s.net.flying → LeadsInOrder t s (Inject port k) s' us
    → All (λ (c : Copy). c.number < s'.net.injected) s'.net.flying × (s'.net.injected ≡ s.net.injected + 1)
inject_numbers {s = s} {k = k} all (injects {w = w} at first) =
    let c : Copy = record { number = s.net.injected; at = w; head = Walk 0; packet = k; hops = 0; steps = 0 } in
    let P : Copy → Type 0 = λ d. d.number < s.net.injected + 1 in
    (All-push P s.net.flying c (All-weaker (λ (d : Copy). d.number < s.net.injected) P (λ d less. omega (arith, less)) s.net.flying all) (omega arith), refl)

-- ---- the next packet is injected
module _ (old new : OrderedPlay) (r : Ready) (rest : List Ready) (y : Tally) (stood : old.waiting.items ≡ rest ++ r ∷ []) (left : new.waiting.items ≡ rest) (does : SimulatesInOrder old.net (Inject r.port r.packet) new.net NoTurn)
    (same : new.net.net.tables ≡ old.net.net.tables) (same_hops : new.hops ≡ old.hops) (more : new.tallies.items ≡ old.tallies.items ++ y ∷ []) (d : y.delivered.items ≡ []) (l : y.lost ≡ 0) (h : y.hops.items ≡ []) where
  pub plays_inject : HasInjected LeadsInOrder Plays left_in old new true
  plays_inject t hops s us p =
      let a = subst (λ t'. (s' : Ordered) × (ts : List OrderedHappening) × LeadsInOrder t' s (Inject r.port r.packet) s' ts × RepresentsInOrder new.net s' × (ts ≡ [])) p.tables (does s p.shows) in
      let numbers = inject_numbers p.below a.2 in
      let popped = All-pop (IsReady t) old.waiting.items rest (Some r) stood p.ready in
      record {
        packet = r.packet;
        next = left-next old.waiting.items rest new.waiting.items r stood left;
        state = a.0;
        leads = subst (λ q. LeadsInOrder t s (Inject q r.packet) a.0 []) (sym popped.1.first) (subst (LeadsInOrder t s (Inject r.port r.packet) a.0) a.4 a.2);
        plays = record {
          tables = same ∙ p.tables;
          hops_same = same_hops ∙ p.hops_same;
          shows = a.3;
          below = numbers.0;
          tallies = tallied-injected Numbered t hops s.net.injected (happenings us) old.tallies.items new.tallies.items p.tallies y more d l h a.0.net.injected numbers.1;
          ready = subst (All (IsReady t)) (sym left) popped.0;
        };
      }

-- ---- a copy makes a step
module _ (old new : OrderedPlay) (place : ℕ) (told : Moved) (held : IsNetView old.net.net) (does : SimulatesInOrder old.net (Step place) new.net (TellsTurn told)) (notes : NotesTurn old.hops old.net.net.tables.switches new.net.net.flying place told old.tallies.items new.tallies.items)
    (same : new.net.net.tables ≡ old.net.net.tables) (same_hops : new.hops ≡ old.hops) (still : new.waiting.items ≡ old.waiting.items) where
  module _ (t : Tables) (hops : Bool) (s : Ordered) (us : List OrderedHappening) (p : Plays t hops s us old) where
    abbrev n : ℕ
    n = s.net.injected

    packets : All (λ (c : Copy). length c.packet ≡ comps t) s.net.flying
    packets = held-shown (λ (c : Flying). length c.packet ≡ comps t) old.net.net s.net p.shows.net (subst (λ t'. All (λ (c : Flying). length c.packet ≡ comps t') old.net.net.flying) p.tables held.packets)

    on : (s' : Ordered) (ts : List OrderedHappening) → LeadsInOrder t s (Step place) s' ts → RepresentsInOrder new.net s' → (u : OrderedHappening) → ts ≡ u ∷ [] → (x : Moved) → x ≡ told_of u → NotesTurn hops t.switches new.net.net.flying place x old.tallies.items new.tallies.items → Plays t hops s' (us ++ ts) new
    on s' ts leads shows u what x is noted =
        let inj : s'.net.injected ≡ n = step_injected leads in
        let numbers = step_numbers (λ m. m < n) p.below leads in
        let y = tallied_turn t hops n us old.tallies.items new.tallies.items p.tallies ts u what new.net.net.flying place (subst (λ cs. StandsTurn cs place u) shows.net.flying (turn_stands leads u what)) x is noted numbers.1 (step_long (comps t) packets leads) in
        record {
          tables = same ∙ p.tables;
          hops_same = same_hops ∙ p.hops_same;
          shows = shows;
          below = subst (λ m. All (λ (c : Copy). c.number < m) s'.net.flying) (sym inj) numbers.0;
          tallies = subst (λ m. Tallied t hops m (us ++ ts) new.tallies.items) (sym inj) y;
          ready = subst (All (IsReady t)) (sym still) p.ready;
        }

  pub plays_step : HasStepped LeadsInOrder Plays left_in (λ (o : Ordered). o.net) place old new true
  plays_step t hops s us p =
      let a = subst (λ t'. (s' : Ordered) × (ts : List OrderedHappening) × LeadsInOrder t' s (Step place) s' ts × RepresentsInOrder new.net s' × TellsTurn told ts) p.tables (does s p.shows) in
      let u = a.4 in
      record {
        left = ap (λ ws. packets_in (reverse ws)) still;
        state = a.0;
        turns = a.1;
        leads = a.2;
        plays = on t hops s us p a.0 a.1 a.2 a.3 u.0 u.1 told u.2
            (subst (λ b. NotesTurn b t.switches new.net.net.flying place told old.tallies.items new.tallies.items) p.hops_same (subst (λ (t' : Tables). NotesTurn old.hops t'.switches new.net.net.flying place told old.tallies.items new.tallies.items) p.tables notes));
      }

-- what was told of has a tally, and stands at the place if it crossed a link
module _ (old new : OrderedPlay) (place : ℕ) (told : Moved) (playing : IsPlaying Plays old) (does : SimulatesInOrder old.net (Step place) new.net (TellsTurn told)) where
  pub number_below : NumberIsBelow (length old.tallies.items) told
  number_below =
      let s = playing.2 in
      let p = playing.4 in
      let a = does s p.shows in
      let u = a.4 in
      subst (λ m. NumberIsBelow (length old.tallies.items) m) (sym u.2) (subst (λ n. NumberIsBelow n (told_of u.0)) (sym p.tallies.counted) (turn_number (λ m. m < s.net.injected) p.below a.2 u.0 u.1))

  pub moved_there : IsThere new.net.net.flying place told
  moved_there =
      let a = does playing.2 playing.4.shows in
      let u = a.4 in
      subst (IsThere new.net.net.flying place) (sym u.2) (turn_there new.net.net.flying place u.0 (subst (λ cs. StandsTurn cs place u.0) a.3.net.flying (turn_stands a.2 u.0 u.1)))

-- a packet that waits is injected
pub inject_made : (old new : OrderedPlay) → (0 < length (left_in old)) → (b : Bool) → HasInjected LeadsInOrder Plays left_in old new b → HasInjected LeadsInOrder Plays left_in old new true
inject_made old new some true does = does
inject_made old new some false none = λ t hops s us p. absurd (let e = ap length none in omega (arith, e, some))
