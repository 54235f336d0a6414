-- A network in which each rank handles the packets in the order of their injection.
use Rattle.std.specs.Prelude.{◌≡◌, ◌≢◌, ℕ, ◌+◌, ◌==◌, Some, List, [], ◌∷◌, ◌++◌, take, drop, length, slice_get, slice_index, if◌then◌else◌}
use Rattle.snap_core.specs.Arrays.{Arrays}
use Rattle.snap_rows.specs.declared.tables.Tables.{Tables}
use Rattle.snap_rows.specs.declared.head.Head.TheVariants.{Visit}
use Rattle.snap_rows.specs.Actions.{Action, Forward, Fork}
use Rattle.snap_rows.specs.Entries.{port_at, rank_at}
use Rattle.snap_rows.specs.Handles.{Handles}
use Rattle.snap_rows.specs.Stepping.{ComesTo}
use Rattle.snap_rows.specs.Network.{Net, Copy, Event, Inject, Step, Happening, Crossed, Forked, RunsBy, start, injected, moved, happening, stepped}
use Rattle.snap_faithful.specs.InOrder.{Becomes, SentOn, Waiting, Forks, TakesTurns}

-- a state of the network, and the number of packets that each rank has handled
pub record Ordered : Type 0 where
  pub net : Net
  pub handled : ℕ → ℕ

-- what happens to a copy, which is given as it is before its step
pub data OrderedHappening : Type 0 where
  -- what happens without order
  Happens : Happening → OrderedHappening
  -- it has made visits, and stays at the switch for its visit of this rank
  Stays : Copy → ℕ → OrderedHappening
  -- it waits for its visit of this rank
  Waits : Copy → ℕ → OrderedHappening

-- nothing has been injected, and no rank has handled a packet
abbrev pub begin : Tables → Arrays → Ordered
begin t m = record { net = start t m; handled = λ r. 0 }

-- the copy is at the owner of rank r for its visit, at number n
pub record AwaitsVisit (t : Tables) (s : Net) (c : Copy) (r n : ℕ) : Type 0 where
  pub comes : ComesTo t c.at c.packet (s.stores c.at) c.head r n
  pub owner : rank_at t r ≡ Some c.at

-- what stands in the place of a copy after its visits
abbrev pub left_by : Copy → Becomes → List Copy
left_by c (SentOn to r n) = moved c (Forward to (Visit r n))
left_by c (Waiting r n) = record c { head = Visit r n; steps = c.steps + 1 } ∷ []
left_by c (Forks copies lost) = moved c (Fork copies lost)

abbrev pub turn_of : Copy → Becomes → OrderedHappening
turn_of c (SentOn to r n) = Happens (Crossed c to (Visit r n))
turn_of c (Waiting r n) = Stays c r
turn_of c (Forks copies lost) = Happens (Forked c (length copies) lost)

-- copy i has made visits, which leave the arrays m at its switch and the numbers h
abbrev pub visited : Ordered → ℕ → Copy → Arrays → (ℕ → ℕ) → Becomes → Ordered
visited s i c m h b = record {
  net = record s.net {
    stores = λ w. if w == c.at then m else s.net.stores w;
    flying = take i s.net.flying ++ (left_by c b ++ drop (i + 1) s.net.flying);
  };
  handled = h;
}

-- the event can be done, and leads from s to s'; of an injection nothing is told
pub data LeadsInOrder (t : Tables) (s : Ordered) : Event → Ordered → List OrderedHappening → Type 0 where
  injects : {port w : ℕ} {k : List ℕ} → port_at t port ≡ Some w → slice_index k 0 ≡ port
      → LeadsInOrder t s (Inject port k) (record s { net = injected s.net w port k }) []
  -- a copy that isn't before a visit steps as it does without order
  moves : {i : ℕ} {c : Copy} {m : Arrays} {a : Action} → slice_get s.net.flying i ≡ Some c
      → ((r n : ℕ) → ¬ AwaitsVisit t s.net c r n) → Handles t c.at c.packet (s.net.stores c.at) c.head m a
      → LeadsInOrder t s (Step i) (record s { net = stepped s.net i c m a }) (Happens (happening c a) ∷ [])
  -- one before a visit makes it if the rank has handled just the packets before its own, and those after it of which that holds too
  visits : {i : ℕ} {c : Copy} {r n : ℕ} {m : Arrays} {h : ℕ → ℕ} {b : Becomes}
      → slice_get s.net.flying i ≡ Some c → AwaitsVisit t s.net c r n → s.handled r ≡ c.number
      → TakesTurns t c.at c.packet c.number (s.net.stores c.at) s.handled r n m h b
      → LeadsInOrder t s (Step i) (visited s i c m h b) (turn_of c b ∷ [])
  -- else it waits, and nothing changes
  waits : {i : ℕ} {c : Copy} {r n : ℕ} → slice_get s.net.flying i ≡ Some c
      → AwaitsVisit t s.net c r n → s.handled r ≢ c.number → LeadsInOrder t s (Step i) s (Waits c r ∷ [])

-- the events lead from s to s'
abbrev pub RunsInOrder : Tables → Ordered → List Event → Ordered → List OrderedHappening → Type 0
RunsInOrder t s es s' us = RunsBy (LeadsInOrder t) s es s' us

abbrev pub OrderedRun : Tables → Arrays → List Event → Ordered → List OrderedHappening → Type 0
OrderedRun t m es s us = RunsInOrder t (begin t m) es s us

-- what happens without order
abbrev pub happenings : List OrderedHappening → List Happening
happenings [] = []
happenings (Happens h ∷ us) = h ∷ happenings us
happenings (Stays c r ∷ us) = happenings us
happenings (Waits c r ∷ us) = happenings us
