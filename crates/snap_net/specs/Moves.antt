-- How a step of a copy is made.
use Rattle.std.specs.Prelude.{◌≡◌, ◌≢◌, ℕ, ◌+◌, ◌<◌, Bool, Some, List, [], ◌∷◌, ◌++◌, map, length, slice_get}
use Rattle.std.specs.List.{All}
use Rattle.snap_core.specs.declared.policy.Update.{Update}
use Rattle.snap_core.specs.Arrays.{Arrays, updates}
use Rattle.snap_core.specs.Cells.{Kept}
use Rattle.snap_rows.specs.declared.head.Fate.{Fate}
use Rattle.snap_rows.specs.declared.head.Fate.TheVariants as fate
use Rattle.snap_rows.specs.declared.head.Head.TheVariants.{Out, Visit}
use Rattle.snap_rows.specs.Actions.{Action, Forward, Deliver, Fork}
use Rattle.snap_rows.specs.declared.head.Sent.{Sent}
use Rattle.snap_rows.specs.declared.tables.Tables.{Tables}
use Rattle.snap_rows.specs.Entries.{Parts, next}
use Rattle.snap_rows.specs.Form.{comps, switch_count}
use Rattle.snap_rows.specs.Handles.{forked}
use Rattle.snap_rows.specs.Home.{AtHome}
use Rattle.snap_rows.specs.Stepping.{Steps}
use Rattle.snap_rows.specs.Network.{Copy, Net, Step, Leads, happening}
use Rattle.snap_net.specs.Frames.{frame}
use Rattle.snap_net.specs.declared.flying.Flying.{Flying}
use Rattle.snap_net.specs.declared.happened.Moved.{Moved}
use Rattle.snap_net.specs.declared.happened.Moved.TheVariants as bare
use Rattle.snap_net.specs.Flights.{spliced}
use Rattle.snap_net.specs.Shown.{NetView, Represents, store_of, flown}

-- the arrays of one switch are m, and those of the others are the same
pub record Changed (old new : List Kept) (w : ℕ) (m : Arrays) : Type 0 where
  pub count : length new ≡ length old
  pub here : store_of new w ≡ m
  pub others : (x : ℕ) → x ≢ w → store_of new x ≡ store_of old x

abbrev pub copies_in_flight : ℕ → ℕ → List Sent → List Flying
copies_in_flight number w copies = map (λ (x : Sent). record { number = number; at = w; head = Out x.port; packet = x.packet }) copies

-- what stands in the place of a copy after its step
abbrev pub flights : Flying → Action → List Flying
flights c (Forward to head) = record c { at = to; head = head } ∷ []
flights c (Deliver port) = []
flights c (Fork copies lost) = copies_in_flight c.number c.at copies

abbrev pub moved_of : Flying → Action → Moved
moved_of c (Forward to head) = bare.Forwarded c.number c.at to
moved_of c (Deliver port) = bare.Delivered c.number port c.packet
moved_of c (Fork copies lost) = bare.Forked c.number (length copies) lost

-- copies, of which some are left, are put behind copy k from the last on
pub record HasPut (old new : List Flying) (k : ℕ) (all left : List Flying) : Type 0 where
  pub put : List Flying
  pub held : new ≡ spliced old (k + 1) 0 put
  pub rest : left ++ put ≡ all

-- in the list, copy k has made way for what its action leaves
abbrev pub HasMoved : List Flying → ℕ → Action → List Flying → Moved → Type 0
HasMoved old k a new moved = (c : Flying) → slice_get old k ≡ Some c → (new ≡ spliced old k 1 (flights c a)) × (moved ≡ moved_of c a)

-- the switch of copy k has done these updates
abbrev pub HasUpdated : List Kept → List Flying → ℕ → List Update → List Kept → Type 0
HasUpdated old flying k us new = (c : Flying) → slice_get flying k ≡ Some c → Changed old new c.at (updates (store_of old c.at) us c.packet)

-- copy k has stepped
pub record HasStepped (old : NetView) (k : ℕ) (a : Action) (new : NetView) (s : Net) : Type 0 where
  pub state : Net
  pub copy : Copy
  pub is : slice_get old.flying k ≡ Some (flown copy)
  pub leads : Leads old.tables s (Step k) state (happening copy a ∷ [])
  pub shows : Represents new state

-- ---- a step as far as its visits are admitted
-- what stands in the place of a copy of which this becomes
abbrev pub left_by : Tables → Flying → Fate → List Flying
left_by t c (fate.Seek x h) = flights c (Forward (next t c.at x) h)
left_by t c (fate.Deliver port) = flights c (Deliver port)
left_by t c (fate.Fork outs) = flights c (forked t outs.now c.packet)
left_by t c (fate.Stay r n) = record c { head = Visit r n } ∷ []
left_by t c (fate.Wait r) = c ∷ []

abbrev pub told_by : Tables → Flying → Fate → Moved
told_by t c (fate.Seek x h) = moved_of c (Forward (next t c.at x) h)
told_by t c (fate.Deliver port) = moved_of c (Deliver port)
told_by t c (fate.Fork outs) = moved_of c (forked t outs.now c.packet)
told_by t c (fate.Stay r n) = bare.Stayed c.number r
told_by t c (fate.Wait r) = bare.Waited c.number r

-- these bytes are the frame of a copy that crosses a link, if it does
abbrev pub IsFrameBy : Fate → List ℕ → List ℕ → Type 0
IsFrameBy (fate.Seek x h) k bytes = bytes ≡ frame h k
IsFrameBy _ k bytes = Unit {0}

-- in the list, copy k has made way for what becomes of it
abbrev pub HasGone : Tables → List Flying → ℕ → Fate → List Flying → Moved → Type 0
HasGone t old k f new moved = (c : Flying) → slice_get old k ≡ Some c → (new ≡ spliced old k 1 (left_by t c f)) × (moved ≡ told_by t c f)

-- the same of one that is forked by these outs
abbrev pub HasParted : Tables → List Flying → ℕ → List Parts → List Flying → Moved → Type 0
HasParted t old k os new moved = (c : Flying) → slice_get old k ≡ Some c
    → (new ≡ spliced old k 1 (flights c (forked t os c.packet))) × (moved ≡ moved_of c (forked t os c.packet))

-- copy c at place k has made its step, with the visits that may be made
pub record HasMade (may : ℕ → Bool) (t : Tables) (c : Flying) (k : ℕ) (old : List Kept)
    (from : List Flying) (new : List Kept) (to : List Flying) (moved : Moved) : Type 0 where
  pub arrays : Arrays
  pub fate : Fate
  pub steps : Steps t c.at c.packet may (store_of old c.at) c.head arrays fate
  pub changed : Changed old new c.at arrays
  pub flying : to ≡ spliced from k 1 (left_by t c fate)
  pub tells : moved ≡ told_by t c fate

abbrev pub MakesStep : (may : ℕ → Bool) → Tables → ℕ → (old : List Kept)
    → (from : List Flying) → (new : List Kept) → (to : List Flying) → Moved → Type 0
MakesStep may t k old from new to moved = (c : Flying) → slice_get from k ≡ Some c → HasMade may t c k old from new to moved

-- copy k of a network has made its step
abbrev pub StepsAt : (may : ℕ → Bool) → NetView → ℕ → NetView → Moved → Type 0
StepsAt may old k new moved = MakesStep may old.tables k old.stores old.flying new.stores new.flying moved

-- each copy is at home at a switch of the tables
pub record AreHome (t : Tables) (cs : List Flying) : Type 0 where
  pub places : All (λ (c : Flying). c.at < switch_count t) cs
  pub packets : All (λ (c : Flying). length c.packet ≡ comps t) cs
  pub homes : All (λ (c : Flying). AtHome t c.at c.head) cs
