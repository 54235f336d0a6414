-- A network of the program as a state of the network, whose counts of hops and steps it doesn't keep.
use Rattle.std.specs.Prelude.{◌≡◌, ℕ, ◌<◌, Some, List, [], ◌∷◌, map, length, get_or, slice_get, option_map, unwrap_or}
use Rattle.std.specs.List.{All}
use Rattle.snap_core.specs.Arrays.{Arrays}
use Rattle.snap_core.specs.Cells.{Kept, arrays_of}
use Rattle.snap_rows.specs.declared.tables.Tables.{Tables}
use Rattle.snap_rows.specs.Entries.{owner_of}
use Rattle.snap_rows.specs.Form.{IsWellFormed, comps, switch_count}
use Rattle.snap_rows.specs.Home.{AtHome}
use Rattle.snap_rows.specs.Rules.{IsValid}
use Rattle.snap_rows.specs.Network.{Copy, Net, Happening, Crossed, Delivered, Forked, Event, Leads, start}
use Rattle.snap_net.specs.declared.flying.Flying.{Flying}
use Rattle.snap_net.specs.Frames.{frame}
use Rattle.snap_net.specs.declared.happened.Happened.{Happened}
use Rattle.snap_net.specs.declared.happened.Happened.TheVariants as framed
use Rattle.snap_net.specs.declared.happened.Moved.{Moved}
use Rattle.snap_net.specs.declared.happened.Moved.TheVariants as bare

-- what a network of the program holds
pub record NetView : Type 0 where
  pub tables : Tables
  pub stores : List Kept
  pub injected : ℕ
  pub flying : List Flying

-- the tables are valid, and each copy is at home at a switch of theirs
pub record IsNetView (v : NetView) : Type 0 where
  pub form : IsWellFormed v.tables
  pub valid : IsValid v.tables
  pub stores : length v.stores ≡ switch_count v.tables
  pub places : All (λ (c : Flying). c.at < switch_count v.tables) v.flying
  pub packets : All (λ (c : Flying). length c.packet ≡ comps v.tables) v.flying
  pub homes : All (λ (c : Flying). AtHome v.tables c.at c.head) v.flying

-- the arrays of a switch
abbrev pub store_of : List Kept → ℕ → Arrays
store_of stores w = arrays_of (get_or stores w [])

-- each array as its switch has it
abbrev pub gathered : Tables → List Kept → Arrays
gathered t stores p = unwrap_or (option_map (λ w. store_of stores w p) (owner_of t p.var)) 0

-- each switch holds its own arrays as m has them
abbrev pub Holds : Tables → List Kept → Arrays → Type 0
Holds t stores m = (w : ℕ) → (start t m).stores w ≡ store_of stores w

-- a copy without its counts
abbrev pub flown : Copy → Flying
flown c = record { number = c.number; at = c.at; head = c.head; packet = c.packet }

-- the network shows this state
pub record Represents (v : NetView) (s : Net) : Type 0 where
  pub stores : (w : ℕ) → s.stores w ≡ store_of v.stores w
  pub injected : s.injected ≡ v.injected
  pub flying : map flown s.flying ≡ v.flying

-- from each state that was shown the event leads to one that is shown now, and this holds of what is told
abbrev pub DoneBy : {V S L : Type 0} → (shows : V → S → Type 0)
    → (leads : S → Event → S → List L → Type 0) → V → Event → V → (List L → Type 0) → Type 0
DoneBy {S = S} {L = L} shows leads old e new told = (s : S) → shows old s
    → (s' : S) × (hs : List L) × leads s e s' hs × shows new s' × told hs

abbrev pub Simulates : NetView → Event → NetView → (List Happening → Type 0) → Type 0
Simulates old e new told = DoneBy Represents (Leads old.tables) old e new told

abbrev pub Nothing : List Happening → Type 0
Nothing hs = hs ≡ []

-- what is told of a happening
abbrev pub moving : Happening → Moved
moving (Crossed c to head) = bare.Forwarded c.number c.at to
moving (Delivered c port) = bare.Delivered c.number port c.packet
moving (Forked c copies lost) = bare.Forked c.number copies lost

abbrev pub TellsMoved : Moved → List Happening → Type 0
TellsMoved h hs = (x : Happening) × (hs ≡ x ∷ []) × (h ≡ moving x)

-- no visit was held back
abbrev pub IsUnheld : Moved → Type 0
IsUnheld (bare.Stayed number rank) = ⊥
IsUnheld (bare.Waited number rank) = ⊥
IsUnheld _ = Unit {0}

-- the same with a frame, taken apart
abbrev pub moved_in : Happened → Moved
moved_in (framed.Forwarded number from to bytes) = bare.Forwarded number from to
moved_in (framed.Delivered number port packet) = bare.Delivered number port packet
moved_in (framed.Forked number copies lost) = bare.Forked number copies lost

abbrev pub frame_in : Happened → List ℕ
frame_in (framed.Forwarded number from to bytes) = bytes.items
frame_in _ = []

-- these bytes, if a link was crossed
abbrev pub frame_with : Moved → List ℕ → List ℕ
frame_with (bare.Forwarded number from to) bytes = bytes
frame_with _ bytes = []

-- the frame of what crosses a link
abbrev pub frame_of : Happening → List ℕ
frame_of (Crossed c to head) = frame head c.packet
frame_of _ = []

abbrev pub IsObservedAs : Happened → List Happening → Type 0
IsObservedAs h hs = (x : Happening) × (hs ≡ x ∷ []) × (moved_in h ≡ moving x) × (frame_in h ≡ frame_of x)

-- if a link was crossed, these bytes are the frame of the copy at this place
abbrev pub HasFrame : List Flying → ℕ → Moved → List ℕ → Type 0
HasFrame cs place (bare.Forwarded number from to) bytes = (c : Flying) → slice_get cs place ≡ Some c → bytes ≡ frame c.head c.packet
HasFrame cs place _ bytes = Unit {0}

-- a copy that crossed a link stands at this place
abbrev pub StandsThere : List Flying → ℕ → Happening → Type 0
StandsThere cs place (Crossed c to head) = slice_get cs place ≡ Some (record { number = c.number; at = to; head = head; packet = c.packet })
StandsThere cs place (Delivered c port) = Unit {0}
StandsThere cs place (Forked c copies lost) = Unit {0}

-- at each switch the same number at each place
pub record SameArrays (old new : List Kept) : Type 0 where
  pub count : length new ≡ length old
  pub arrays : (w : ℕ) → store_of new w ≡ store_of old w

-- the same network, but for room
pub record Same (a b : NetView) : Type 0 where
  pub tables : b.tables ≡ a.tables
  pub stores : SameArrays a.stores b.stores
  pub injected : b.injected ≡ a.injected
  pub flying : b.flying ≡ a.flying
