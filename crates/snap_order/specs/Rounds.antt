-- Rounds, in which each copy in flight makes a step, and the schedule that makes one after each injection.
use Rattle.std.specs.Prelude.{◌≡◌, ◌≢◌, ℕ, ◌+◌, Bool, List, [], ◌∷◌, flat_map, length, Ok, Err}
use Rattle.std.specs.declared.option.Option.{Option}
use Rattle.std.specs.Io.KnownBytes.{Appends}
use Rattle.snap_core.specs.Arrays.{zero_arrays}
use Rattle.snap_io.specs.Sinks.{AppendsSome}
use Rattle.snap_rows.specs.declared.tables.Tables.{Tables}
use Rattle.snap_rows.specs.Network.{Event, Inject, RunsBy, Step}
use Rattle.snap_report.specs.declared.fault.TraceFault.TheVariants.{Write}
use Rattle.snap_report.specs.OneSwitch.{RunEnding}
use Rattle.snap_runs.specs.Plain.{entering, spelled_for}
use Rattle.snap_runs.specs.Schedules.{IsReadWhole, RefusesPackets}
use Rattle.snap_order.specs.Ordered.{Ordered, OrderedHappening, LeadsInOrder, begin, happenings}
use Rattle.snap_order.specs.Reports.{IsRunReport}

-- In a round that has come to place i the copy there makes a step. The next to make one stands behind all that the step leaves in
-- its copy's place, so what a fork puts there isn't taken.
pub data TakesNext (t : Tables) : ℕ × Ordered → Event → ℕ × Ordered → List OrderedHappening → Type 0 where
  takes : {i j : ℕ} {s s' : Ordered} {us : List OrderedHappening} → LeadsInOrder t s (Step i) s' us
      → j + length s.net.flying ≡ i + 1 + length s'.net.flying → TakesNext t (i, s) (Step i) (j, s') us

-- so the copies from place i on make a step each, in the order of the list
abbrev pub TakesFrom : Tables → ℕ → Ordered → List Event → Ordered → List OrderedHappening → Type 0
TakesFrom t i s es s' us = RunsBy (TakesNext t) (i, s) es (length s'.net.flying, s') us

-- each copy in flight makes a step
abbrev pub IsRound : Tables → Ordered → List Event → Ordered → List OrderedHappening → Type 0
IsRound t s es s' us = TakesFrom t 0 s es s' us

-- Where a packet is left it is injected, and then a round is made. Where none is left a round is made while a copy is in flight.
pub data GoesRound (t : Tables) : List (ℕ × List ℕ) × Ordered → List Event → List (ℕ × List ℕ) × Ordered → List OrderedHappening → Type 0 where
  injects : {port : ℕ} {k : List ℕ} {ks : List (ℕ × List ℕ)} {s s' s'' : Ordered} {es : List Event} {us : List OrderedHappening}
      → LeadsInOrder t s (Inject port k) s' [] → IsRound t s' es s'' us
      → GoesRound t ((port, k) ∷ ks, s) (Inject port k ∷ es) (ks, s'') us
  goes_on : {s s' : Ordered} {es : List Event} {us : List OrderedHappening} → s.net.flying ≢ []
      → IsRound t s es s' us → GoesRound t ([], s) es ([], s') us

-- the events of rounds, one after another
abbrev pub events_of : List (List Event) → List Event
events_of rounds = flat_map (λ round. round) rounds

-- so it goes, round by round, until no packet is left and nothing is in flight
pub record GoesByRounds (t : Tables) (ks : List (ℕ × List ℕ)) (s : Ordered) (es : List Event) (end : Ordered) (us : List OrderedHappening) : Type 0 where
  pub rounds : List (List Event)
  pub run : RunsBy (GoesRound t) (ks, s) rounds ([], end) us
  pub are : es ≡ events_of rounds
  pub rests : end.net.flying ≡ []

-- from empty arrays the run of the round schedule of these packets has this report
pub record IsRoundReport (t : Tables) (hops : Bool) (ks : List (List ℕ)) (text : List ℕ) : Type 0 where
  pub events : List Event
  pub end : Ordered
  pub turns : List OrderedHappening
  pub run : GoesByRounds t (entering ks) (begin t zero_arrays) events end turns
  pub report : IsRunReport t hops (length ks) end.net (happenings turns) text

-- the packets file was read to its end, and the run of its packets has this report
abbrev pub HasRoundReport : Tables → (hops : Bool) → (file : List ℕ) → List ℕ → Type 0
HasRoundReport t hops file text = IsReadWhole t file × IsRoundReport t hops (spelled_for t file).packets text

-- The whole report went out, or some first bytes where the sink failed, or nothing where the packets were refused or memory was short.
abbrev pub WritesRounds : Tables → (hops : Bool) → (file : List ℕ) → RunEnding → Option (List ℕ) → Option (List ℕ) → Type 0
WritesRounds t hops file (Ok u) old new = (text : List ℕ) × HasRoundReport t hops file text × Appends old new text
WritesRounds t hops file (Err Write) old new = AppendsSome (HasRoundReport t hops file) old new
WritesRounds t hops file (Err fault) old new = (new ≡ old) × RefusesPackets t file fault
