-- What a packet makes of a network, and how far a run over a packets file has come.
use Rattle.std.specs.Prelude.{◌≡◌, ℕ, ◌+◌, ◌<◌, Bool, List, [], ◌∷◌, ◌++◌, length, IsSome, Ok, Err, None}
use Rattle.std.specs.List.{All}
use Rattle.snap_core.specs.Arrays.{zero_arrays}
use Rattle.snap_rows.specs.declared.tables.Tables.{Tables}
use Rattle.snap_rows.specs.Entries.{port_at}
use Rattle.snap_rows.specs.Network.{Net, Event, Inject, Happening, IsPlainRun, RunsSequentially, StepsFirst, packets_of, start, global_store}
use Rattle.snap_net.specs.Passing.{IsTold}
use Rattle.snap_net.specs.Shown.{NetView, Represents}
use Rattle.snap_report.specs.declared.fault.TraceFault.TheVariants.{Read, Write, Limit, Packets, Undefined, NoMemory}
use Rattle.snap_report.specs.OneSwitch.{RunEnding}
use Rattle.snap_runs.specs.declared.frames.Frames.{Frames}
use Rattle.snap_runs.specs.declared.tally.Tally.{Tally}
use Rattle.snap_runs.specs.declared.tracer.Tracer.{Tracer}
use Rattle.snap_runs.specs.Plain.{entering}
use Rattle.snap_runs.specs.Reports.{AreBlocksBy, IsBlockBy, hops_text}
use Rattle.snap_rows.specs.Happenings.{number_of}

-- other tables come into force: nothing is in flight, the same number was injected, and the whole store is the same
abbrev pub changed : (to from : Tables) → Net → Net
changed to from s = record (start to (global_store from s)) { injected = s.injected }

-- all of this happens to packet i
abbrev pub HappenTo : ℕ → List Happening → Type 0
HappenTo i hs = All (λ h. number_of h ≡ i) hs

-- this was told of packet i, and the lines of the links that its copies crossed were put, where hops are told
pub record IsTraced (f : Frames) (t : Tables) (hops : Bool) (i : ℕ) (y : Tally)
    (sent : List (List ℕ)) (lost : ℕ) (hs : List Happening) : Type 0 where
  pub told : IsTold i sent lost hs
  pub lines : y.hops.items ≡ hops_text f t hops i hs

-- a tracer has told this of a packet
abbrev pub Traces : (old new : Tracer) → (sent : List (List ℕ)) → (lost : ℕ) → List Happening → Type 0
Traces old new sent lost hs = IsTraced old.frames old.net.tables old.hops old.net.injected new.tally sent lost hs

-- a packet was injected with nothing in flight, all its copies have come to rest, and its block stands behind the text
pub record HasTaken (f : Frames) (t : Tables) (hops : Bool) (port : ℕ)
    (k : List ℕ) (s : Net) (new : NetView) (before after : List ℕ) : Type 0 where
  pub events : List Event
  pub no_packets : packets_of events ≡ []
  pub first : All StepsFirst events
  pub state : Net
  pub happenings : List Happening
  pub run : RunsSequentially t s (Inject port k ∷ events) state happenings
  pub rests : state.flying ≡ []
  pub injected : state.injected ≡ s.injected + 1
  pub shows : Represents new state
  pub happen : HappenTo s.injected happenings
  pub text : List ℕ
  pub block : IsBlockBy f t hops s.injected happenings text
  pub put : after ≡ before ++ text

-- a packet of the line with this number was taken
abbrev pub TakesPacket : (line port : ℕ) → (k : List ℕ) → (old new : Tracer) → (before after : List ℕ) → RunEnding → Type 0
TakesPacket line port k old new before after (Ok u) = IsSome (port_at old.net.tables port)
    × ((s : Net) → Represents old.net s → s.flying ≡ [] → HasTaken old.frames old.net.tables old.hops port k s new.net before after)
TakesPacket line port k old new before after (Err (Packets l)) = (l ≡ line) × (port_at old.net.tables port ≡ None) × (after ≡ before)
TakesPacket line port k old new before after (Err NoMemory) = Unit {0}
TakesPacket line port k old new before after (Err Read) = ⊥
TakesPacket line port k old new before after (Err Write) = ⊥
TakesPacket line port k old new before after (Err (Limit which count)) = ⊥
TakesPacket line port k old new before after (Err (Undefined packet)) = ⊥

-- In a run that began with the first of these networks these packets were taken, of which these are the blocks. The second
-- shows the state after their plain run.
pub record Stands (first : Tracer) (packets : List (List ℕ)) (text : List ℕ) (tracer : Tracer) : Type 0 where
  pub tables : tracer.net.tables ≡ first.net.tables
  pub hops_same : tracer.hops ≡ first.hops
  pub frames_same : tracer.frames ≡ first.frames
  pub events : List Event
  pub state : Net
  pub happenings : List Happening
  pub run : IsPlainRun first.net.tables zero_arrays (entering packets) events state happenings
  pub shows : Represents tracer.net state
  pub injected : state.injected ≡ length packets
  pub before : All (λ h. number_of h < length packets) happenings
  pub blocks : AreBlocksBy first.frames first.net.tables first.hops (length packets) happenings text
