-- Rounds, and runs by rounds.
use Rattle.std.proofs.Common.{◌≡◌, ℕ, ◌+◌, ◌<◌, Bool, List, [], ◌∷◌, ◌++◌, map, refl, sym, ap, subst, ◌∙◌, append-nil, append_assoc}
use Rattle.std.specs.List.{All}
use Rattle.std.proofs.lemmas.List.Elements.{All-append, All-cons, All-nil}
use Rattle.snap_rows.specs.declared.tables.Tables.{Tables}
use Rattle.snap_rows.specs.Form.{comps}
use Rattle.snap_rows.specs.Network.{Copy, Event, Inject, RunsBy, done, on, packets_of}
use Rattle.snap_rows.proofs.Runs.{runs-behind}
use Rattle.snap_faithful.proofs.Nodes.{IsTwo}
use Rattle.snap_runs.specs.declared.tally.Tally.{Tally}
use Rattle.snap_rows.specs.Happenings.{number_of}
use Rattle.snap_net.proofs.Told.{packets_of-append}
use Rattle.snap_net.specs.declared.flying.Flying.{Flying}
use Rattle.snap_net.specs.declared.happened.Moved.{Moved}
use Rattle.snap_order.specs.Ordered.{Ordered, OrderedHappening, LeadsInOrder, RunsInOrder, happenings, injects as injecting}
use Rattle.snap_order.specs.Playing.{NotesTurn, NumberIsBelow}
use Rattle.snap_order.specs.Rounding.{NoteTurns, no_notes, notes, width}
use Rattle.snap_order.specs.Rounds.{GoesByRounds, GoesRound, TakesNext, events_of, goes_on, injects, takes}
use Rattle.snap_order.specs.Shown.{told_of}
use Rattle.snap_order.proofs.Overlap.{happenings_more}
use Rattle.snap_order.proofs.Placed.{IsLong, Placed, step_keeps_long, step_placed}
use Rattle.snap_order.proofs.Playing.{step_injected, step_numbers, turn_number}
use Rattle.snap_order.proofs.Tallied.{Tallied, step_long, tallied_turn}
use Rattle.snap_order.proofs.There.{StandFrom, one_turn}

-- ---- a round
pub injects_one : {t : Tables} {s s' : Ordered} {port : ℕ} {k : List ℕ} {us : List OrderedHappening} → LeadsInOrder t s (Inject port k) s' us → s'.net.injected ≡ s.net.injected + 1
injects_one (injecting at first) = refl

pub round_injected : {t : Tables} {x y : ℕ × Ordered} {es : List Event} {us : List OrderedHappening} → RunsBy (TakesNext t) x es y us → y.1.net.injected ≡ x.1.net.injected
round_injected done = refl
round_injected (on (takes leads next) rest) = round_injected rest ∙ step_injected leads

pub round_runs : {t : Tables} {x y : ℕ × Ordered} {es : List Event} {us : List OrderedHappening} → RunsBy (TakesNext t) x es y us → RunsInOrder t x.1 es y.1 us
round_runs done = done
round_runs (on (takes leads next) rest) = on leads (round_runs rest)

round_packets : {t : Tables} {x y : ℕ × Ordered} {es : List Event} {us : List OrderedHappening} → RunsBy (TakesNext t) x es y us → packets_of es ≡ []
round_packets done = refl
round_packets (on (takes leads next) rest) = round_packets rest

-- the numbers of packets
pub round_numbers : {t : Tables} {x y : ℕ × Ordered} {es : List Event} {us : List OrderedHappening} (n : ℕ) → All (λ (c : Copy). c.number < n) x.1.net.flying → RunsBy (TakesNext t) x es y us → All (λ (c : Copy). c.number < n) y.1.net.flying × All (λ h. number_of h < n) (happenings us)
round_numbers n all done = (all, All-nil (λ h. number_of h < n))
round_numbers n all (on {h = u} {hs = us} (takes leads next) rest) =
    let first = step_numbers (λ m. m < n) all leads in
    let more = round_numbers n first.0 rest in
    (more.0, subst (All (λ h. number_of h < n)) (sym (happenings_more u us)) (All-append (λ h. number_of h < n) (happenings u) (happenings us) first.1 more.1))

-- what is told is of these packets
pub told_below : {t : Tables} {x y : ℕ × Ordered} {es : List Event} {us : List OrderedHappening} (n : ℕ) → All (λ (c : Copy). c.number < n) x.1.net.flying → RunsBy (TakesNext t) x es y us → All (NumberIsBelow n) (map told_of us)
told_below n all done = All-nil (NumberIsBelow n)
told_below n all (on {hs = us} (takes leads next) rest) =
    let one = one_turn leads in
    let first = step_numbers (λ m. m < n) all leads in
    subst (λ l. All (NumberIsBelow n) (map told_of (l ++ us))) (sym one.1) (All-cons (NumberIsBelow n) (told_of one.0) (map told_of us) (turn_number (λ m. m < n) all leads one.0 one.1) (told_below n first.0 rest))

-- ---- notes
nothing_noted : {hops : Bool} {switches : List (List ℕ)} {cs : List Flying} {place : ℕ} {ys zs : List Tally} → NoteTurns hops switches cs place [] ys zs → zs ≡ ys
nothing_noted no_notes = refl

first_noted : {hops : Bool} {switches : List (List ℕ)} {cs : List Flying} {place : ℕ} {x : Moved} {xs : List Moved} {ys end : List Tally} → NoteTurns hops switches cs place (x ∷ xs) ys end
    → (zs : List Tally) × NotesTurn hops switches cs place x ys zs × NoteTurns hops switches cs (place + width x) xs zs end
first_noted (notes {zs = zs} first rest) = (zs, first, rest)

module _ (t : Tables) (two : IsTwo t) (hops : Bool) (n : ℕ) (cs : List Flying) where
  pub tallied_round : {x y : ℕ × Ordered} {es : List Event} {ts : List OrderedHappening} (us : List OrderedHappening) (place : ℕ) (ys zs : List Tally) → RunsBy (TakesNext t) x es y ts → All (λ (c : Copy). c.number < n) x.1.net.flying → All (Placed t) x.1.net.flying → All (IsLong (comps t)) x.1.net.flying
      → Tallied t hops n us ys → StandFrom place cs ts → NoteTurns hops t.switches cs place (map told_of ts) ys zs → Tallied t hops n (us ++ ts) zs
  tallied_round us place ys zs done below placed long p stands noted = subst (λ l. Tallied t hops n l zs) (sym (append-nil us)) (subst (Tallied t hops n us) (sym (nothing_noted noted)) p)
  tallied_round us place ys zs (on {h = u} {hs = ts} (takes leads next) rest) below placed long p stands noted =
      let one = one_turn leads in
      let there = subst (λ l. StandFrom place cs (l ++ ts)) one.1 stands in
      let first = first_noted (subst (λ l. NoteTurns hops t.switches cs place (map told_of (l ++ ts)) ys zs) one.1 noted) in
      let numbers = step_numbers (λ m. m < n) below leads in
      let q = tallied_turn t hops n us ys first.0 p u one.0 one.1 cs place there.0 (told_of one.0) refl first.1 numbers.1 (step_long (comps t) long leads) in
      subst (λ l. Tallied t hops n l zs) (append_assoc us u ts)
      (tallied_round (us ++ u) (place + width (told_of one.0)) first.0 zs rest numbers.0 (step_placed t two leads placed) (step_keeps_long t two (comps t) leads placed long) q there.1 first.2)

-- ---- runs by rounds
-- a round injects nothing
none_among : {t : Tables} {x y : ℕ × Ordered} {es : List Event} {us : List OrderedHappening} → RunsBy (TakesNext t) x es y us → (fs : List Event) → packets_of (es ++ fs) ≡ packets_of fs
none_among {es = es} round fs = packets_of-append es fs ∙ ap (λ l. l ++ packets_of fs) (round_packets round)

rounds_run : {t : Tables} {x y : List (ℕ × List ℕ) × Ordered} {rs : List (List Event)} {us : List OrderedHappening} → RunsBy (GoesRound t) x rs y us → RunsInOrder t x.1 (events_of rs) y.1 us × (packets_of (events_of rs) ++ y.0 ≡ x.0)
rounds_run done = (done, refl)
rounds_run {y = y} (on {es = rs} (injects {port = port} {k = k} leads round) rest) =
    let more = rounds_run rest in
    (on leads (runs-behind (round_runs round) more.0), ap (λ l. (port, k) ∷ (l ++ y.0)) (none_among round (events_of rs)) ∙ ap (λ l. (port, k) ∷ l) more.1)
rounds_run {y = y} (on {es = rs} (goes_on some round) rest) =
    let more = rounds_run rest in
    (runs-behind (round_runs round) more.0, ap (λ l. l ++ y.0) (none_among round (events_of rs)) ∙ more.1)

-- each is a run of its packets to an end
pub by_rounds_runs : (t : Tables) {ks : List (ℕ × List ℕ)} {s s' : Ordered} {es : List Event} {us : List OrderedHappening} → GoesByRounds t ks s es s' us → RunsInOrder t s es s' us × (packets_of es ≡ ks) × (s'.net.flying ≡ [])
by_rounds_runs t {s = s} {s' = s'} {us = us} goes =
    let r = rounds_run goes.run in
    (subst (λ es. RunsInOrder t s es s' us) (sym goes.are) r.0, ap packets_of goes.are ∙ sym (append-nil (packets_of (events_of goes.rounds))) ∙ r.1, goes.rests)
