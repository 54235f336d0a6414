-- How a run by rounds goes on.
use Rattle.std.specs.Prelude.{◌≡◌, ℕ, zero, suc, ◌+◌, ◌-◌, ◌<◌, ◌≤◌, Bool, true, false, Some, List, [], ◌∷◌, ◌++◌, filter, length, map, slice_get, sum_by}
use Rattle.snap_core.specs.Arrays.{zero_arrays}
use Rattle.snap_rows.specs.declared.head.Head.{Head}
use Rattle.snap_rows.specs.declared.head.Head.TheVariants.{Walk, Stage, Out, Visit}
use Rattle.snap_rows.specs.declared.tables.Tables.{Tables}
use Rattle.snap_rows.specs.Entries.{ranks}
use Rattle.snap_rows.specs.Network.{Copy, Event, RunsBy}
use Rattle.snap_rows.specs.Weight.{weight}
use Rattle.snap_net.specs.declared.flying.Flying.{Flying}
use Rattle.snap_runs.specs.Plain.{entering}
use Rattle.snap_runs.specs.Tallies.{IsThere}
use Rattle.snap_order.specs.declared.play.OrderedPlay.{OrderedPlay}
use Rattle.snap_net.specs.declared.happened.Moved.{Moved}
use Rattle.snap_net.specs.declared.happened.Moved.TheVariants as bare
use Rattle.snap_order.specs.Ordered.{Ordered, OrderedHappening, begin}
use Rattle.snap_order.specs.Playing.{NotesTurn, Plays, left_in}
use Rattle.snap_order.specs.Rounds.{GoesRound, IsRound, TakesNext}
use Rattle.snap_order.specs.Serving.{StandsBefore}
use Rattle.snap_order.specs.Shown.{OrderedNetView, RepresentsInOrder, told_of}
use Rattle.snap_runs.specs.declared.tally.Tally.{Tally}

-- ---- a round
-- from each state that was shown a round leads to one that is shown now, and this was told of its steps
abbrev pub IsRoundDone : OrderedNetView → OrderedNetView → List Moved → Type 0
IsRoundDone old new done = (s : Ordered) → RepresentsInOrder old s → (s' : Ordered) × (es : List Event)
    × (us : List OrderedHappening) × IsRound old.net.tables s es s' us × RepresentsInOrder new s' × (done ≡ map told_of us)

-- the copies before a place have made their steps
pub record HasRoundedTo (t : Tables) (s : Ordered) (place : ℕ) (now : OrderedNetView) (done : List Moved) : Type 0 where
  pub state : Ordered
  pub events : List Event
  pub turns : List OrderedHappening
  pub run : RunsBy (TakesNext t) (0, s) events (place, state) turns
  pub shows : RepresentsInOrder now state
  pub told : done ≡ map told_of turns
  pub within : place ≤ length state.net.flying

-- how many copies stand in the place of one after its step
abbrev pub width : Moved → ℕ
width (bare.Forwarded number from to) = 1
width (bare.Delivered number port k) = 0
width (bare.Forked number copies lost) = copies
width (bare.Stayed number r) = 1
width (bare.Waited number r) = 1

-- from a place on each step has left its copies, one behind another, to the end of the list
abbrev pub AreThere : ℕ → List Flying → List Moved → Type 0
AreThere place cs [] = place ≡ length cs
AreThere place cs (m ∷ ms) = IsThere cs place m × AreThere (place + width m) cs ms

-- what the steps told was noted, one after another, with the copies that they left from a place on
pub data NoteTurns (hops : Bool) (switches : List (List ℕ)) (cs : List Flying) : ℕ → List Moved → List Tally → List Tally → Type 0 where
  no_notes : {place : ℕ} {ys : List Tally} → NoteTurns hops switches cs place [] ys ys
  notes : {place : ℕ} {x : Moved} {xs : List Moved} {ys zs end : List Tally} → NotesTurn hops switches cs place x ys zs
      → NoteTurns hops switches cs (place + width x) xs zs end → NoteTurns hops switches cs place (x ∷ xs) ys end

-- a round was made
pub record RoundsOn (t : Tables) (hops : Bool) (s : Ordered) (us : List OrderedHappening) (old new : OrderedPlay) : Type 0 where
  pub left : left_in new ≡ left_in old
  pub state : Ordered
  pub events : List Event
  pub turns : List OrderedHappening
  pub round : IsRound t s events state turns
  pub plays : Plays t hops state (us ++ turns) new

abbrev pub HasRounded : (old new : OrderedPlay) → Type 0
HasRounded old new = (t : Tables) (hops : Bool) (s : Ordered) (us : List OrderedHappening) → Plays t hops s us old → RoundsOn t hops s us old new

-- ---- the pace
-- whether a copy hasn't forked
abbrev pub is_above_leaf : Head → Bool
is_above_leaf (Walk n) = true
is_above_leaf (Visit r n) = true
is_above_leaf (Stage n i) = false
is_above_leaf (Out p) = false

abbrev pub early : List Copy → List Copy
early cs = filter (λ (c : Copy). is_above_leaf c.head) cs

-- so many packets have come to rank r: all that were injected, or all that the rank before has handled
abbrev pub come_to : Ordered → ℕ → ℕ
come_to s zero = s.net.injected
come_to s (suc r) = s.handled r

-- packet i has a copy that stands before rank r
pub record Stands (s : Ordered) (r i : ℕ) : Type 0 where
  pub copy : Copy
  pub place : ℕ
  pub is : slice_get s.net.flying place ≡ Some copy
  pub own : copy.number ≡ i
  pub before : StandsBefore copy.head r

-- Each packet that has come to a rank and wasn't handled there stands before it, and there are as many copies that haven't forked as
-- packets that the last rank hasn't handled.
pub record KeepsPace (t : Tables) (s : Ordered) : Type 0 where
  pub stand : (r i : ℕ) → r < ranks t → s.handled r ≤ i → i < come_to s r → Stands s r i
  pub count : 0 < ranks t → length (early s.net.flying) + come_to s (ranks t) ≡ s.net.injected

-- the ranks that a copy hasn't come to
abbrev pub ranks_left : Tables → Head → ℕ
ranks_left t (Walk n) = ranks t + 1
ranks_left t (Visit r n) = ranks t - r
ranks_left t (Stage n i) = 0
ranks_left t (Out p) = 0

-- the steps that copies can still make, at most: fewer after each round
abbrev pub toil : Tables → List Flying → ℕ
toil t cs = sum_by (λ (c : Flying). weight t c.at c.head + ranks_left t c.head) cs

-- ---- the schedule of rounds
-- the rounds of some first packets were made, and perhaps more
pub record PlaysRounds (t : Tables) (hops : Bool) (ks : List (List ℕ)) (v : OrderedPlay) : Type 0 where
  pub rounds : List (List Event)
  pub state : Ordered
  pub turns : List OrderedHappening
  pub run : RunsBy (GoesRound t) (entering ks, begin t zero_arrays) rounds (entering (left_in v), state) turns
  pub plays : Plays t hops state turns v
  pub pace : KeepsPace t state
  pub injected : state.net.injected + length (left_in v) ≡ length ks

abbrev pub IsPaced : OrderedPlay → Type 0
IsPaced v = (ks : List (List ℕ)) × PlaysRounds v.net.net.tables v.hops ks v
