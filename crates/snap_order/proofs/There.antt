-- Where the copies stand that steps leave, after one step and after a round.
use Rattle.std.proofs.Common.{◌≡◌, ℕ, zero, suc, ◌+◌, ◌<◌, ◌≤◌, List, [], ◌∷◌, ◌++◌, Some, map, take, drop, get_or, length, refl, sym, ap, subst, ◌∙◌, arith}
use Rattle.std.specs.Prelude.{slice_get}
use Rattle.std.proofs.lemmas.List.{length-append, length-map, length-take-le, take-append-le, take-map, take-take}
use Rattle.std.proofs.lemmas.Option.{slice_get_within}
use Rattle.snap_rows.specs.Actions.{Action, Forward, Deliver, Fork}
use Rattle.snap_rows.specs.declared.head.Head.TheVariants.{Visit}
use Rattle.snap_rows.specs.declared.tables.Tables.{Tables}
use Rattle.snap_rows.specs.Network.{Copy, Event, RunsBy, Step, done, on, Crossed, Delivered, Forked, happening, moved}
use Rattle.snap_net.specs.declared.flying.Flying.{Flying}
use Rattle.snap_net.specs.declared.happened.Moved.{Moved}
use Rattle.snap_net.specs.Shown.{HasFrame, flown, frame_with, moving}
use Rattle.snap_net.proofs.Steps.{frame_told, replaced_there}
use Rattle.snap_faithful.proofs.Leaving.{split_up}
use Rattle.snap_faithful.specs.InOrder.{Becomes, SentOn, Waiting, Forks}
use Rattle.snap_runs.specs.Tallies.{IsThere}
use Rattle.snap_runs.proofs.Tallied.{is-there}
use Rattle.snap_order.specs.Ordered.{Ordered, OrderedHappening, Happens, Stays, Waits, LeadsInOrder, left_by, moves, turn_of, visits, waits}
use Rattle.snap_order.specs.Rounding.{AreThere, width}
use Rattle.snap_order.specs.Rounds.{IsRound, TakesNext, takes}
use Rattle.snap_order.specs.Shown.{StandsTurn, frame_of_turn, told_of}

-- ---- one step
-- a step is one turn
pub one_turn : {t : Tables} {s s' : Ordered} {j : ℕ} {us : List OrderedHappening} → LeadsInOrder t s (Step j) s' us → (u : OrderedHappening) × (us ≡ u ∷ [])
one_turn (moves {c = c} {a = a} is none does) = (Happens (happening c a), refl)
one_turn (visits {c = c} {b = b} is before turn taking) = (turn_of c b, refl)
one_turn (waits {c = c} {r = r} is before early) = (Waits c r, refl)

-- the turn of a list of one
the_turn : (u v : OrderedHappening) → u ∷ [] ≡ v ∷ [] → u ≡ v
the_turn u v one = ap (λ l. get_or l 0 v) one

turned_there : (cs : List Copy) (i : ℕ) (c : Copy) (b : Becomes) → slice_get cs i ≡ Some c → StandsTurn (map flown (take i cs ++ (left_by c b ++ drop (i + 1) cs))) i (turn_of c b)
turned_there cs i c (SentOn to r n) is = replaced_there cs i c (Forward to (Visit r n)) is
turned_there cs i c (Waiting r n) is = tt
turned_there cs i c (Forks copies lost) is = tt

-- a copy that crossed a link stands in its place
pub turn_stands : {t : Tables} {s s' : Ordered} {i : ℕ} {us : List OrderedHappening} → LeadsInOrder t s (Step i) s' us → (u : OrderedHappening) → us ≡ u ∷ [] → StandsTurn (map flown s'.net.flying) i u
turn_stands {s = s} {s' = s'} (moves {i = i} {c = c} {a = a} is none does) u one = subst (StandsTurn (map flown s'.net.flying) i) (the_turn (Happens (happening c a)) u one) (replaced_there s.net.flying i c a is)
turn_stands {s = s} {s' = s'} (visits {i = i} {c = c} {b = b} is before turn taking) u one = subst (StandsTurn (map flown s'.net.flying) i) (the_turn (turn_of c b) u one) (turned_there s.net.flying i c b is)
turn_stands {s' = s'} (waits {i = i} {c = c} {r = r} is before early) u one = subst (StandsTurn (map flown s'.net.flying) i) (the_turn (Waits c r) u one) tt

pub turn_there : (cs : List Flying) (place : ℕ) (u : OrderedHappening) → StandsTurn cs place u → IsThere cs place (told_of u)
turn_there cs place (Happens h) stands = is-there cs place h stands
turn_there cs place (Stays c r) stands = tt
turn_there cs place (Waits c r) stands = tt

-- a frame that is told is that of what crossed
pub turn_framed : (cs : List Flying) (k : ℕ) (u : OrderedHappening) (moved : Moved) (bytes : List ℕ) → moved ≡ told_of u → StandsTurn cs k u → HasFrame cs k moved bytes → frame_with moved bytes ≡ frame_of_turn u
turn_framed cs k (Happens h) moved bytes tells stands framed = frame_told cs k h moved bytes tells stands framed
turn_framed cs k (Stays c r) moved bytes tells stands framed = ap (λ m. frame_with m bytes) tells
turn_framed cs k (Waits c r) moved bytes tells stands framed = ap (λ m. frame_with m bytes) tells

-- ---- how many copies stand there
replaced_length : (cs : List Copy) (i : ℕ) (c : Copy) (xs : List Copy) → slice_get cs i ≡ Some c → length (take i cs ++ (xs ++ drop (i + 1) cs)) + 1 ≡ length cs + length xs
replaced_length cs i c xs is =
    let a = ap length (split_up cs i c is) in
    let b = length-append (take i cs) (c ∷ drop (i + 1) cs) in
    let d = length-append (take i cs) (xs ++ drop (i + 1) cs) in
    let e = length-append xs (drop (i + 1) cs) in
    omega (arith, a, b, d, e)

moved_width : (c : Copy) (a : Action) → length (moved c a) ≡ width (moving (happening c a))
moved_width c (Forward to head) = refl
moved_width c (Deliver port) = refl
moved_width c (Fork copies lost) = length-map copies _

left_width : (c : Copy) (b : Becomes) → length (left_by c b) ≡ width (told_of (turn_of c b))
left_width c (SentOn to r n) = refl
left_width c (Waiting r n) = refl
left_width c (Forks copies lost) = length-map copies _

turn_width : {t : Tables} {s s' : Ordered} {i : ℕ} {us : List OrderedHappening} → LeadsInOrder t s (Step i) s' us → (u : OrderedHappening) → us ≡ u ∷ [] → length s'.net.flying + 1 ≡ length s.net.flying + width (told_of u)
turn_width {s = s} (moves {i = i} {c = c} {a = a} is none does) u one =
    replaced_length s.net.flying i c (moved c a) is ∙ ap (λ n. length s.net.flying + n) (moved_width c a ∙ ap (λ v. width (told_of v)) (the_turn (Happens (happening c a)) u one))
turn_width {s = s} (visits {i = i} {c = c} {b = b} is before turn taking) u one =
    replaced_length s.net.flying i c (left_by c b) is ∙ ap (λ n. length s.net.flying + n) (left_width c b ∙ ap (λ v. width (told_of v)) (the_turn (turn_of c b) u one))
turn_width {s = s} (waits {c = c} {r = r} is before early) u one = ap (λ v. length s.net.flying + width (told_of v)) (the_turn (Waits c r) u one)

-- ---- a round
-- copies before the one that steps stay as they are
before_kept : (cs xs : List Copy) (i j : ℕ) (c : Copy) → slice_get cs i ≡ Some c → j ≤ i → take j (take i cs ++ xs) ≡ take j cs
before_kept cs xs i j c is low =
    let within : i < length cs = slice_get_within cs i c is in
    let long : length (take i cs) ≡ i = length-take-le i cs (omega (arith, within)) in
    take-append-le j (take i cs) xs (omega (arith, long, low)) ∙ take-take j i cs low

turn_keeps : {t : Tables} {s s' : Ordered} {i : ℕ} {us : List OrderedHappening} → LeadsInOrder t s (Step i) s' us → (j : ℕ) → j ≤ i → take j s'.net.flying ≡ take j s.net.flying
turn_keeps {s = s} (moves {i = i} {c = c} {a = a} is none does) j low = before_kept s.net.flying (moved c a ++ drop (i + 1) s.net.flying) i j c is low
turn_keeps {s = s} (visits {i = i} {c = c} {b = b} is before turn taking) j low = before_kept s.net.flying (left_by c b ++ drop (i + 1) s.net.flying) i j c is low
turn_keeps (waits is before early) j low = refl

-- the next copy stands behind all that a step leaves
next_place : {t : Tables} {s s' : Ordered} {i j : ℕ} {us : List OrderedHappening} → LeadsInOrder t s (Step i) s' us → (u : OrderedHappening) → us ≡ u ∷ [] → j + length s.net.flying ≡ i + 1 + length s'.net.flying → j ≡ i + width (told_of u)
next_place leads u one counted = let w = turn_width leads u one in omega (arith, counted, w)

round_keeps : {t : Tables} {x y : ℕ × Ordered} {es : List Event} {us : List OrderedHappening} → RunsBy (TakesNext t) x es y us → (j : ℕ) → j ≤ x.0 → take j y.1.net.flying ≡ take j x.1.net.flying
round_keeps done j low = refl
round_keeps (on (takes leads counted) rest) j low =
    let one = one_turn leads in
    let next = next_place leads one.0 one.1 counted in
    round_keeps rest j (omega (arith, next, low)) ∙ turn_keeps leads j low

get_taken : (n : ℕ) (xs : List Flying) (i : ℕ) → i < n → slice_get (take n xs) i ≡ slice_get xs i
get_taken zero xs i low = absurd (let l : i < 0 = low in omega arith)
get_taken (suc n) [] i low = refl
get_taken (suc n) (x ∷ xs) zero low = refl
get_taken (suc n) (x ∷ xs) (suc i) low = get_taken n xs i (let l : suc i < suc n = low in omega arith)

-- what stands there stays there
stands_on : (u : OrderedHappening) (cs ds : List Flying) (i : ℕ) → take (i + width (told_of u)) ds ≡ take (i + width (told_of u)) cs → StandsTurn cs i u → StandsTurn ds i u
stands_on (Happens (Crossed c to head)) cs ds i same stands =
    sym (get_taken (i + 1) ds i (omega arith)) ∙ ap (λ l. slice_get l i) same ∙ get_taken (i + 1) cs i (omega arith) ∙ stands
stands_on (Happens (Delivered c port)) cs ds i same stands = tt
stands_on (Happens (Forked c copies lost)) cs ds i same stands = tt
stands_on (Stays c r) cs ds i same stands = tt
stands_on (Waits c r) cs ds i same stands = tt

-- from a place on each turn has left its copies, one behind another, to the end of the list
abbrev pub StandFrom : ℕ → List Flying → List OrderedHappening → Type 0
StandFrom place cs [] = place ≡ length cs
StandFrom place cs (u ∷ us) = StandsTurn cs place u × StandFrom (place + width (told_of u)) cs us

stands-from : {t : Tables} {x y : ℕ × Ordered} {es : List Event} {us : List OrderedHappening} → RunsBy (TakesNext t) x es y us → y.0 ≡ length y.1.net.flying → StandFrom x.0 (map flown y.1.net.flying) us
stands-from {y = y} done at = at ∙ sym (length-map y.1.net.flying flown)
stands-from {y = y} (on {hs = us} (takes {i = i} {s' = mid} leads counted) rest) at =
    let one = one_turn leads in
    let u = one.0 in
    let next = next_place leads u one.1 counted in
    let k = i + width (told_of u) in
    let end = y.1 in
    let kept : take k end.net.flying ≡ take k mid.net.flying = round_keeps rest k (omega (arith, next)) in
    let same : take k (map flown end.net.flying) ≡ take k (map flown mid.net.flying) = take-map flown k end.net.flying ∙ ap (map flown) kept ∙ sym (take-map flown k mid.net.flying) in
    subst (λ l. StandFrom i (map flown end.net.flying) (l ++ us)) (sym one.1)
    (stands_on u (map flown mid.net.flying) (map flown end.net.flying) i same (turn_stands leads u one.1), subst (λ j. StandFrom j (map flown end.net.flying) us) next (stands-from rest at))

pub round_stands : {t : Tables} {s s' : Ordered} {es : List Event} {us : List OrderedHappening} → IsRound t s es s' us → StandFrom 0 (map flown s'.net.flying) us
round_stands round = stands-from round refl

-- so the notes can be made
pub told_there : (us : List OrderedHappening) (place : ℕ) (cs : List Flying) → StandFrom place cs us → AreThere place cs (map told_of us)
told_there [] place cs stands = stands
told_there (u ∷ us) place cs stands = (turn_there cs place u stands.0, told_there us (place + width (told_of u)) cs stands.1)

pub there_low : (place : ℕ) (cs : List Flying) (ms : List Moved) → AreThere place cs ms → place ≤ length cs
there_low place cs [] there = omega (arith, there)
there_low place cs (m ∷ ms) there = let low = there_low (place + width m) cs ms there.1 in omega (arith, low)
