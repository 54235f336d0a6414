-- An ordered network of the program as a state of the ordered network, whose counts of hops and steps it doesn't keep.
use Rattle.std.specs.Prelude.{◌≡◌, ℕ, List, [], ◌∷◌, length, get_or}
use Rattle.snap_rows.specs.Entries.{ranks}
use Rattle.snap_rows.specs.Network.{Event}
use Rattle.snap_net.specs.declared.flying.Flying.{Flying}
use Rattle.snap_net.specs.declared.happened.Moved.{Moved}
use Rattle.snap_net.specs.declared.happened.Moved.TheVariants as bare
use Rattle.snap_net.specs.Shown.{DoneBy, NetView, Same, Represents, StandsThere, frame_in, frame_of, moved_in, moving}
use Rattle.snap_order.specs.declared.turned.OrderedHappened.{OrderedHappened}
use Rattle.snap_order.specs.declared.turned.OrderedHappened.TheVariants as framed
use Rattle.snap_order.specs.Ordered.{Ordered, OrderedHappening, Happens, Stays, Waits, LeadsInOrder}

-- what an ordered network of the program holds: a network, and how many packets each rank has handled
pub record OrderedNetView : Type 0 where
  pub net : NetView
  pub counts : List ℕ

-- the tables are of version 2, and there is a count for each rank
pub record IsOrderedNetView (v : OrderedNetView) : Type 0 where
  pub version : v.net.tables.version ≡ 2
  pub counts : length v.counts ≡ ranks v.net.tables

-- the ordered network shows this state
pub record RepresentsInOrder (v : OrderedNetView) (s : Ordered) : Type 0 where
  pub net : Represents v.net s.net
  pub handled : (r : ℕ) → s.handled r ≡ get_or v.counts r 0

-- the event leads from each state that was shown to one that is shown now, with happenings of which this holds
abbrev pub SimulatesInOrder : OrderedNetView → Event → OrderedNetView → (List OrderedHappening → Type 0) → Type 0
SimulatesInOrder old e new told = DoneBy RepresentsInOrder (LeadsInOrder old.net.tables) old e new told

abbrev pub NoTurn : List OrderedHappening → Type 0
NoTurn us = us ≡ []

-- what is told of a happening
abbrev pub told_of : OrderedHappening → Moved
told_of (Happens h) = moving h
told_of (Stays c r) = bare.Stayed c.number r
told_of (Waits c r) = bare.Waited c.number r

abbrev pub TellsTurn : Moved → List OrderedHappening → Type 0
TellsTurn told us = (u : OrderedHappening) × (us ≡ u ∷ []) × (told ≡ told_of u)

-- the same with a frame, taken apart
abbrev pub moved_turned : OrderedHappened → Moved
moved_turned (framed.Moved h) = moved_in h
moved_turned (framed.Visited number rank) = bare.Stayed number rank
moved_turned (framed.Waited number rank) = bare.Waited number rank

abbrev pub frame_turned : OrderedHappened → List ℕ
frame_turned (framed.Moved h) = frame_in h
frame_turned _ = []

-- the frame of what crosses a link
abbrev pub frame_of_turn : OrderedHappening → List ℕ
frame_of_turn (Happens h) = frame_of h
frame_of_turn _ = []

abbrev pub TellsFrame : OrderedHappened → List OrderedHappening → Type 0
TellsFrame told us = (u : OrderedHappening) × (us ≡ u ∷ []) × (moved_turned told ≡ told_of u) × (frame_turned told ≡ frame_of_turn u)

-- a copy that crossed a link stands at this place
abbrev pub StandsTurn : List Flying → ℕ → OrderedHappening → Type 0
StandsTurn cs place (Happens h) = StandsThere cs place h
StandsTurn cs place (Stays c r) = Unit {0}
StandsTurn cs place (Waits c r) = Unit {0}

-- the same ordered network, but for room
pub record SameInOrder (a b : OrderedNetView) : Type 0 where
  pub net : Same a.net b.net
  pub counts : b.counts ≡ a.counts
