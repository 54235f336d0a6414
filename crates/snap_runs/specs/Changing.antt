-- The network whose tables change between packets, and its report.
use Rattle.std.specs.Prelude.{◌≡◌, ℕ, ◌+◌, ◌<◌, Bool, nat_le, List, [], ◌∷◌, ◌++◌, slice_index, if◌then◌else◌}
use Rattle.std.specs.List.{All}
use Rattle.snap_core.specs.declared.place.Entry.{Entry}
use Rattle.snap_core.specs.Arrays.{zero_arrays}
use Rattle.snap_core.specs.Listing.{IsListing}
use Rattle.snap_rows.specs.declared.tables.Tables.{Tables}
use Rattle.snap_rows.specs.Network.{Net, Event, Inject, Happening, RunsBy, RunsSequentially, StepsFirst, packets_of, start, global_store}
use Rattle.snap_report.specs.Reports.{end_text}
use Rattle.snap_runs.specs.Reports.{IsBlock, array_names}
use Rattle.snap_runs.specs.Tracing.{changed}
use Rattle.snap_runs.specs.declared.later.Later.{Later}
use Rattle.snap_runs.specs.Shapes.{HaveOneShape}

-- ---- changes
-- the first change comes behind more packets than these
abbrev pub IsAhead : List Later → ℕ → Type 0
IsAhead [] n = Unit {0}
IsAhead (l ∷ ls) n = n < l.after

-- the numbers of packets rise
abbrev pub IsRising : List Later → Type 0
IsRising [] = Unit {0}
IsRising (l ∷ ls) = IsAhead ls l.after × IsRising ls

-- all tables have the shape of the first
abbrev pub HaveShapeOf : Tables → List Later → Type 0
HaveShapeOf first later = All (λ (l : Later). HaveOneShape l.tables first) later

-- the tables that are in force when packet i comes in, counted from 0
abbrev pub in_force : Tables → List Later → ℕ → Tables
in_force t [] i = t
in_force t (l ∷ ls) i = if nat_le l.after i then in_force l.tables ls i else t

-- ---- runs
-- a packet comes in with nothing in flight, and its copies come to rest by steps of the first copy
pub record GoesThrough (t : Tables) (k : List ℕ) (s s' : Net) (hs : List Happening) : Type 0 where
  pub events : List Event
  pub no_packets : packets_of events ≡ []
  pub first : All StepsFirst events
  pub run : RunsSequentially t s (Inject (slice_index k 0) k ∷ events) s' hs
  pub rests : s'.flying ≡ []

-- what happened to a packet, and the tables that were in force then
pub record Passage : Type 0 where
  pub tables : Tables
  pub happenings : List Happening

-- between two packets: the packets that are left, the tables in force, the changes to come, and the network with nothing in flight
pub record Between : Type 0 where
  pub packets : List (List ℕ)
  pub tables : Tables
  pub later : List Later
  pub net : Net

-- what comes next
pub data Turn : Type 0 where
  Changes : Turn
  Passes : List ℕ → Turn

-- A change is made as soon as so many packets have finished: then the network holds the same whole store over the new tables.
-- Where none is due the next packet goes through.
pub data TakesTurn : Between → Turn → Between → List Passage → Type 0 where
  changes : {ks : List (List ℕ)} {t : Tables} {l : Later} {ls : List Later} {s : Net} → l.after ≡ s.injected
      → TakesTurn (record { packets = ks; tables = t; later = l ∷ ls; net = s }) Changes
      (record { packets = ks; tables = l.tables; later = ls; net = changed l.tables t s }) []
  goes : {k : List ℕ} {ks : List (List ℕ)} {t : Tables} {ls : List Later} {s s' : Net} {hs : List Happening} → IsAhead ls s.injected
      → GoesThrough t k s s' hs
      → TakesTurn (record { packets = k ∷ ks; tables = t; later = ls; net = s }) (Passes k)
      (record { packets = ks; tables = t; later = ls; net = s' }) (record { tables = t; happenings = hs } ∷ [])

-- so these packets go through one after another, up to these last tables, changes to come and state
abbrev pub RunsThrough : (end : Tables) → (left : List Later) → (last : Net) → Tables → List Later → Net → List (List ℕ) → List Passage → Type 0
RunsThrough end left last t ls s ks turns = (es : List Turn)
    × RunsBy TakesTurn (record { packets = ks; tables = t; later = ls; net = s }) es
    (record { packets = []; tables = end; later = left; net = last }) turns

-- ---- reports
-- the blocks of packets, of which the first has this number, counted from 0; the switches of each are named by the tables then in force
abbrev pub AreBlocksFrom : (hops : Bool) → (i : ℕ) → List Passage → List ℕ → Type 0
AreBlocksFrom hops i [] text = text ≡ []
AreBlocksFrom hops i (x ∷ xs) text = (block : List ℕ) × (rest : List ℕ)
    × IsBlock x.tables hops i x.happenings block × AreBlocksFrom hops (i + 1) xs rest × (text ≡ block ++ rest)

-- from empty arrays the run of these packets has these blocks,
pub record AreChangedBlocks (first : Tables) (later : List Later) (hops : Bool) (ks : List (List ℕ)) (text : List ℕ) : Type 0 where
  pub end : Tables
  pub left : List Later
  pub state : Net
  pub turns : List Passage
  pub run : RunsThrough end left state first later (start first zero_arrays) ks turns
  pub blocks : AreBlocksFrom hops 0 turns text

-- From empty arrays these packets go through, and then no change is due any more.
pub record ChangedRun (first : Tables) (later : List Later) (ks : List (List ℕ)) : Type 0 where
  pub end : Tables
  pub left : List Later
  pub state : Net
  pub turns : List Passage
  pub run : RunsThrough end left state first later (start first zero_arrays) ks turns
  pub ahead : IsAhead left state.injected

-- The report of turns behind which the network has these tables and this state: the blocks, and the places that aren't 0.
pub record IsTurnsReport (end : Tables) (state : Net) (turns : List Passage) (hops : Bool) (text : List ℕ) : Type 0 where
  pub blocks : List ℕ
  pub are : AreBlocksFrom hops 0 turns blocks
  pub entries : List Entry
  pub listed : IsListing (global_store end state) entries
  pub is : text ≡ blocks ++ end_text (array_names end) entries

-- and this is the report of the run
pub record IsChangedReport (first : Tables) (later : List Later) (hops : Bool) (ks : List (List ℕ)) (text : List ℕ) : Type 0 where
  pub ran : ChangedRun first later ks
  pub report : IsTurnsReport ran.end ran.state ran.turns hops text
