-- How a run by rounds goes on, and its report.
use Rattle.std.proofs.Common.{◌≡◌, ◌≢◌, ℕ, suc, ◌+◌, ◌<◌, Bool, true, List, [], ◌∷◌, ◌++◌, Some, length, map, reverse, refl, sym, ap, subst, ◌∙◌, arith}
use Rattle.std.specs.Prelude.{slice_get, slice_index}
use Rattle.std.specs.List.{All}
use Rattle.std.proofs.lemmas.Option.{none-some}
use Rattle.snap_core.specs.Arrays.{zero_arrays}
use Rattle.snap_rows.specs.declared.tables.Tables.{Tables}
use Rattle.snap_rows.specs.Form.{comps}
use Rattle.snap_rows.specs.Network.{Copy, Event, Inject, RunsBy, done}
use Rattle.snap_rows.proofs.Runs.{runs-then}
use Rattle.snap_net.specs.Shown.{IsNetView}
use Rattle.snap_net.proofs.Blocks.{found}
use Rattle.snap_net.proofs.Steps.{copy_shown}
use Rattle.snap_faithful.proofs.Nodes.{IsTwo}
use Rattle.snap_runs.specs.Plain.{entering}
use Rattle.snap_runs.specs.Playing.{IsReady, packets_in}
use Rattle.snap_runs.specs.Runner.{HasInjected, IsPlaying}
use Rattle.snap_runs.proofs.Steps.{rests-shown}
use Rattle.snap_order.specs.declared.play.OrderedPlay.{OrderedPlay}
use Rattle.snap_net.specs.declared.happened.Moved.{Moved}
use Rattle.snap_order.specs.Ordered.{Ordered, OrderedHappening, LeadsInOrder, begin, happenings}
use Rattle.snap_order.specs.Playing.{NumberIsBelow, Plays, left_in}
use Rattle.snap_order.specs.Reports.{IsRunReport}
use Rattle.snap_order.specs.Rounding.{AreThere, HasRounded, IsPaced, IsRoundDone, NoteTurns, PlaysRounds, toil}
use Rattle.snap_order.specs.Rounds.{GoesRound, IsRound, IsRoundReport, events_of, goes_on, injects}
use Rattle.snap_order.specs.Shown.{IsOrderedNetView, OrderedNetView, RepresentsInOrder, told_of}
use Rattle.snap_order.proofs.Placed.{IsLong, Placed, long_shown, placed_shown}
use Rattle.snap_order.proofs.Rounds.{injects_one, round_injected, round_numbers, tallied_round, told_below}
use Rattle.snap_order.proofs.Standing.{inject_pace, pace_first}
use Rattle.snap_order.proofs.Tallied.{Tallied}
use Rattle.snap_order.proofs.There.{StandFrom, round_stands, told_there}
use Rattle.snap_order.proofs.Toiling.{round_falls, round_pace, toil_of, toil_shown}

-- ---- a round
two_held : (v : OrderedNetView) → IsNetView v.net → IsOrderedNetView v → IsTwo v.net.tables
two_held v held ordered = record { form = held.form; valid = held.valid; version = ordered.version }

module _ (old : OrderedPlay) (now : OrderedNetView) (told : List Moved) (does : IsRoundDone old.net now told) where
  -- the round of a state that was shown, over the tables at hand
  round_of : (t : Tables) (hops : Bool) (s : Ordered) (us : List OrderedHappening) → Plays t hops s us old → (s' : Ordered) × (es : List Event) × (ts : List OrderedHappening) × IsRound t s es s' ts × RepresentsInOrder now s' × (told ≡ map told_of ts)
  round_of t hops s us p = subst (λ t'. (s' : Ordered) × (es : List Event) × (ts : List OrderedHappening) × IsRound t' s es s' ts × RepresentsInOrder now s' × (told ≡ map told_of ts)) p.tables (does s p.shows)

  -- what was told of has a tally
  pub told_all : IsPlaying Plays old → All (NumberIsBelow (length old.tallies.items)) told
  told_all playing =
      let s = playing.2 in
      let p = playing.4 in
      let a = round_of playing.0 playing.1 s playing.3 p in
      subst (λ n. All (NumberIsBelow n) told) (sym p.tallies.counted) (subst (All (NumberIsBelow s.net.injected)) (sym a.5) (told_below s.net.injected p.below a.3))

  -- where it left its copies
  stands_of : (t : Tables) (hops : Bool) (s : Ordered) (us : List OrderedHappening) (p : Plays t hops s us old) → StandFrom 0 now.net.flying (round_of t hops s us p).2
  stands_of t hops s us p = let a = round_of t hops s us p in subst (λ cs. StandFrom 0 cs a.2) a.4.net.flying (round_stands a.3)

  pub there_all : IsPlaying Plays old → AreThere 0 now.net.flying told
  there_all playing =
      let a = round_of playing.0 playing.1 playing.2 playing.3 playing.4 in
      subst (AreThere 0 now.net.flying) (sym a.5) (told_there a.2 0 now.net.flying (stands_of playing.0 playing.1 playing.2 playing.3 playing.4))

  module _ (new : OrderedPlay) (is : new.net ≡ now) (held : IsNetView old.net.net) (ordered : IsOrderedNetView old.net) (notes : NoteTurns old.hops old.net.net.tables.switches now.net.flying 0 told old.tallies.items new.tallies.items)
      (same : now.net.tables ≡ old.net.net.tables) (same_hops : new.hops ≡ old.hops) (still : new.waiting.items ≡ old.waiting.items) where
    pub plays_round : HasRounded old new
    plays_round t hops s us p =
        let a = round_of t hops s us p in
        let n = s.net.injected in
        let two = subst IsTwo p.tables (two_held old.net held ordered) in
        let placed = subst (λ t'. All (Placed t') s.net.flying) p.tables (placed_shown old.net.net s.net held p.shows.net) in
        let long = subst (λ t'. All (IsLong (comps t')) s.net.flying) p.tables (long_shown old.net.net s.net held p.shows.net) in
        let numbers = round_numbers n p.below a.3 in
        let inj : a.0.net.injected ≡ n = round_injected a.3 in
        let noted = subst (λ l. NoteTurns hops t.switches now.net.flying 0 l old.tallies.items new.tallies.items) a.5
        (subst (λ b. NoteTurns b t.switches now.net.flying 0 told old.tallies.items new.tallies.items) p.hops_same (subst (λ (t' : Tables). NoteTurns old.hops t'.switches now.net.flying 0 told old.tallies.items new.tallies.items) p.tables notes)) in
        let y = tallied_round t two hops n now.net.flying us 0 old.tallies.items new.tallies.items a.3 p.below placed long p.tallies (stands_of t hops s us p) noted in
        record {
          left = ap (λ ws. packets_in (reverse ws)) still;
          state = a.0;
          events = a.1;
          turns = a.2;
          round = a.3;
          plays = record {
            tables = ap (λ (v : OrderedNetView). v.net.tables) is ∙ same ∙ p.tables;
            hops_same = same_hops ∙ p.hops_same;
            shows = subst (λ v. RepresentsInOrder v a.0) (sym is) a.4;
            below = subst (λ m. All (λ (c : Copy). c.number < m) a.0.net.flying) (sym inj) numbers.0;
            tallies = subst (λ m. Tallied t hops m (us ++ a.2) new.tallies.items) (sym inj) y;
            ready = subst (All (IsReady t)) (sym still) p.ready;
          };
        }

-- ---- the schedule of rounds
pub rounds_first : (t : Tables) (hops : Bool) (ks : List (List ℕ)) (v : OrderedPlay) → Plays t hops (begin t zero_arrays) [] v → left_in v ≡ ks → PlaysRounds t hops ks v
rounds_first t hops ks v plays left = record {
  rounds = [];
  state = begin t zero_arrays;
  turns = [];
  run = subst (λ l. RunsBy (GoesRound t) (entering ks, begin t zero_arrays) [] (entering l, begin t zero_arrays) []) (sym left) done;
  plays = plays;
  pace = pace_first t (begin t zero_arrays) refl refl (λ q. refl);
  injected = (let e : length (left_in v) ≡ length ks = ap length left in omega (arith, e));
}

pub paced_of : (t : Tables) (hops : Bool) (ks : List (List ℕ)) (v : OrderedPlay) → PlaysRounds t hops ks v → IsPaced v
paced_of t hops ks v p = (ks, subst (λ t'. PlaysRounds t' v.hops ks v) (sym p.plays.tables) (subst (λ h. PlaysRounds t h ks v) (sym p.plays.hops_same) p))

module _ (old mid : OrderedPlay) (held : IsNetView mid.net.net) (ordered : IsOrderedNetView mid.net) where
  two_of : (t : Tables) → mid.net.net.tables ≡ t → IsTwo t
  two_of t same = subst IsTwo same (two_held mid.net held ordered)

  placed_of : (t : Tables) (hops : Bool) (s : Ordered) (us : List OrderedHappening) → Plays t hops s us mid → All (Placed t) s.net.flying
  placed_of t hops s us p = subst (λ t'. All (Placed t') s.net.flying) p.tables (placed_shown mid.net.net s.net held p.shows.net)

  -- a packet is injected, and then a round is made
  pub rounds_more : (new : OrderedPlay) → HasInjected LeadsInOrder Plays left_in old mid true → HasRounded mid new → (t : Tables) (hops : Bool) (ks : List (List ℕ)) → PlaysRounds t hops ks old → PlaysRounds t hops ks new
  rounds_more new injected rounded t hops ks p =
      let a = injected t hops p.state p.turns p.plays in
      let b = rounded t hops a.state p.turns a.plays in
      let e = Inject (slice_index a.packet 0) a.packet in
      let left : left_in old ≡ a.packet ∷ left_in new = a.next ∙ ap (λ l. a.packet ∷ l) (sym b.left) in
      record {
        rounds = p.rounds ++ (e ∷ b.events) ∷ [];
        state = b.state;
        turns = p.turns ++ b.turns;
        run = runs-then (e ∷ b.events) (entering (left_in new), b.state) b.turns
            (subst (λ l. RunsBy (GoesRound t) (entering ks, begin t zero_arrays) p.rounds (entering l, p.state) p.turns) left p.run) (injects a.leads b.round);
        plays = b.plays;
        pace = round_pace t (two_of t a.plays.tables) b.round (placed_of t hops a.state p.turns a.plays) (inject_pace a.leads p.pace);
        injected = (let x = round_injected b.round in let y = injects_one a.leads in let z = ap length left in let w = p.injected in omega (arith, x, y, z, w));
      }

-- one packet fewer waits
pub one_fewer : (old mid new : OrderedPlay) → HasInjected LeadsInOrder Plays left_in old mid true → HasRounded mid new → (t : Tables) (hops : Bool) (ks : List (List ℕ)) → PlaysRounds t hops ks old → length (left_in old) ≡ suc (length (left_in new))
one_fewer old mid new injected rounded t hops ks p =
    let a = injected t hops p.state p.turns p.plays in
    let b = rounded t hops a.state p.turns a.plays in
    ap length a.next ∙ ap (λ l. suc (length l)) (sym b.left)

-- a round is made with no packet left
module _ (old new : OrderedPlay) (held : IsNetView old.net.net) (ordered : IsOrderedNetView old.net) (rounded : HasRounded old new) (none : left_in old ≡ []) (some : 0 < length old.net.net.flying) where
  first_copy : (s : Ordered) → RepresentsInOrder old.net s → (c : Copy) × (slice_get s.net.flying 0 ≡ Some c)
  first_copy s shows = let f = found old.net.net.flying 0 some in let x = copy_shown old.net.net s.net 0 f.0 shows.net f.1 in (x.0, x.1)

  pub rounds_on : (t : Tables) (hops : Bool) (ks : List (List ℕ)) → PlaysRounds t hops ks old → PlaysRounds t hops ks new
  rounds_on t hops ks p =
      let b = rounded t hops p.state p.turns p.plays in
      let c = first_copy p.state p.plays.shows in
      let flies : p.state.net.flying ≢ [] = λ e. none-some c.0 (ap (λ l. slice_get l 0) (sym e) ∙ c.1) in
      let left : left_in new ≡ [] = b.left ∙ none in
      record {
        rounds = p.rounds ++ b.events ∷ [];
        state = b.state;
        turns = p.turns ++ b.turns;
        run = subst (λ l. RunsBy (GoesRound t) (entering ks, begin t zero_arrays) (p.rounds ++ b.events ∷ []) (entering l, b.state) (p.turns ++ b.turns)) (sym left)
            (runs-then b.events ([], b.state) b.turns
            (subst (λ l. RunsBy (GoesRound t) (entering ks, begin t zero_arrays) p.rounds (entering l, p.state) p.turns) none p.run) (goes_on flies b.round));
        plays = b.plays;
        pace = round_pace t (two_of old old held ordered t p.plays.tables) b.round (placed_of old old held ordered t hops p.state p.turns p.plays) p.pace;
        injected = ap (λ m. m + length (left_in new)) (round_injected b.round) ∙ ap (λ l. p.state.net.injected + length l) b.left ∙ p.injected;
      }

  -- and fewer steps are left
  pub rounds_fall : IsPaced old → toil new.net.net.tables new.net.net.flying < toil old.net.net.tables old.net.net.flying
  rounds_fall paced =
      let t = old.net.net.tables in
      let p = paced.1 in
      let b = rounded t old.hops p.state p.turns p.plays in
      let c = first_copy p.state p.plays.shows in
      let less = round_falls t (two_held old.net held ordered) b.round (placed_of old old held ordered t old.hops p.state p.turns p.plays) p.pace c.0 c.1 in
      let e : toil t old.net.net.flying ≡ toil_of t p.state.net.flying = ap (toil t) (sym p.plays.shows.net.flying) ∙ toil_shown t p.state.net.flying in
      let f : toil new.net.net.tables new.net.net.flying ≡ toil_of t b.state.net.flying = ap (λ t'. toil t' new.net.net.flying) b.plays.tables ∙ ap (toil t) (sym b.plays.shows.net.flying) ∙ toil_shown t b.state.net.flying in
      omega (arith, less, e, f)

-- ---- the report
pub round_report : (t : Tables) (hops : Bool) (ks : List (List ℕ)) (v : OrderedPlay) (text : List ℕ) (p : PlaysRounds t hops ks v) → left_in v ≡ [] → v.net.net.flying ≡ [] → IsRunReport t hops p.state.net.injected p.state.net (happenings p.turns) text
    → IsRoundReport t hops ks text
round_report t hops ks v text p left rested report = record {
  events = events_of p.rounds;
  end = p.state;
  turns = p.turns;
  run = record {
    rounds = p.rounds;
    run = subst (λ l. RunsBy (GoesRound t) (entering ks, begin t zero_arrays) p.rounds (entering l, p.state) p.turns) left p.run;
    are = refl;
    rests = rests-shown v.net.net p.state.net p.plays.shows.net rested;
  };
  report = subst (λ n. IsRunReport t hops n p.state.net (happenings p.turns) text) count report;
}
  where
    count : p.state.net.injected ≡ length ks
    count = (let a = p.injected in let b : length (left_in v) ≡ 0 = ap length left in omega (arith, a, b))
