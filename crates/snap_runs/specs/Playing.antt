-- How far the run of a network over a schedule has come.
use Rattle.std.specs.Prelude.{◌≡◌, ℕ, ◌+◌, ◌<◌, Bool, List, [], ◌∷◌, ◌++◌, map, length, reverse, slice_get, slice_index, IsSome, Some, Result, Ok, Err}
use Rattle.std.specs.List.{All, concat}
use Rattle.snap_core.specs.declared.program.Field.{Field}
use Rattle.snap_rows.specs.declared.tables.Tables.{Tables}
use Rattle.snap_rows.specs.Entries.{port_at}
use Rattle.snap_rows.specs.Form.{comps}
use Rattle.snap_rows.specs.Network.{Copy, Net, Happening}
use Rattle.snap_net.specs.declared.happened.Moved.{Moved}
use Rattle.snap_net.specs.Shown.{Represents}
use Rattle.snap_runs.specs.declared.frames.Frames.{Frames}
use Rattle.snap_runs.specs.declared.frames.Frames.TheVariants.{Plain}
use Rattle.snap_runs.specs.declared.play.Play.{Play}
use Rattle.snap_runs.specs.declared.ready.Ready.{Ready}
use Rattle.snap_runs.specs.declared.tally.Tally.{Tally}
use Rattle.snap_report.specs.declared.fault.TraceFault.{TraceFault}
use Rattle.snap_report.specs.declared.fault.TraceFault.TheVariants as trace
use Rattle.snap_report.specs.declared.line.Line.{Line as Read_line}
use Rattle.snap_report.specs.declared.line.Line.TheVariants as read
use Rattle.snap_report.specs.Spelled.{ended, refused}
use Rattle.snap_runs.specs.Plain.{spelled_for}
use Rattle.snap_rows.specs.Happenings.{number_of}
use Rattle.snap_runs.specs.Tallies.{IsBlockText, IsTally, delivered_by, lost_by, number_by}

abbrev pub packets_in : List Ready → List (List ℕ)
packets_in rs = map (λ (r : Ready). r.packet) rs

-- the packet can be injected at its port
pub record IsReady (t : Tables) (r : Ready) : Type 0 where
  pub long : length r.packet ≡ comps t
  pub first : slice_index r.packet 0 ≡ r.port
  pub has : IsSome (port_at t r.port)

-- the packets that wait stand with the next one last
abbrev pub left_in : Play → List (List ℕ)
left_in v = packets_in (reverse v.waiting.items)

-- the packets that were delivered have so many components
abbrev pub IsLong : ℕ → Tally → Type 0
IsLong n y = All (λ k. length k ≡ n) y.delivered.items

-- there is a tally of each of the first n packets
pub record AreTallied (f : Frames) (t : Tables) (hops : Bool) (n : ℕ) (hs : List Happening) (ys : List Tally) : Type 0 where
  pub counted : length ys ≡ n
  pub before : All (λ h. number_of h < n) hs
  pub tallied : (i : ℕ) (y : Tally) → slice_get ys i ≡ Some y → IsTally f t hops i hs y
  pub long : (i : ℕ) (y : Tally) → slice_get ys i ≡ Some y → IsLong (comps t) y

-- The network shows the state after the run, and there is a tally of each packet that was injected.
pub record Plays (t : Tables) (hops : Bool) (s : Net) (hs : List Happening) (v : Play) : Type 0 where
  pub tables : v.net.tables ≡ t
  pub hops_same : v.hops ≡ hops
  pub shows : Represents v.net s
  pub below : All (λ (c : Copy). c.number < s.injected) s.flying
  pub tallies : AreTallied Plain t hops s.injected hs v.tallies.items
  pub ready : All (IsReady t) v.waiting.items

-- a step was noted in its packet's tally, with these lines
pub record HasNoted (lines : List ℕ) (m : Moved) (old new : List Tally) : Type 0 where
  pub before : Tally
  pub after : Tally
  pub is : slice_get old (number_by m) ≡ Some before
  pub delivered : after.delivered.items ≡ before.delivered.items ++ delivered_by m
  pub lost : after.lost ≡ before.lost + lost_by m
  pub hops_told : after.hops.items ≡ before.hops.items ++ lines
  pub count : length new ≡ length old
  pub here : slice_get new (number_by m) ≡ Some after
  pub others : (i : ℕ) → (i ≡ number_by m → ⊥) → slice_get new i ≡ slice_get old i

-- the blocks of packets were put, one after another, as their tallies tell them
pub record PutsBlocks (fields : List Field) (ys : List Tally) (before after : List ℕ) : Type 0 where
  pub each : List (List ℕ)
  pub as_many : length each ≡ length ys
  pub blocks : (i : ℕ) (y : Tally) (text : List ℕ) → slice_get ys i ≡ Some y
      → slice_get each i ≡ Some text → IsBlockText fields (i + 1) y [] text
  pub is : after ≡ before ++ concat each

-- the blocks of some first tallies were put, and these are left, the next one last
pub record SoPut (fields : List Field) (ys left : List Tally) (number : ℕ) (before after : List ℕ) : Type 0 where
  pub done : List Tally
  pub are : ys ≡ done ++ reverse left
  pub is : number ≡ length done
  pub puts : PutsBlocks fields done before after

-- these are the packets of a file that was read to its end
abbrev pub AreAll : Tables → (file : List ℕ) → List Ready → Type 0
AreAll t file rs = spelled_for t file ≡ record { packets = packets_in rs; stop = ended }

-- these are the packets before what stops the file
abbrev pub AreBefore : Tables → (file : List ℕ) → List Ready → TraceFault → Type 0
AreBefore t file rs fault = spelled_for t file ≡ record { packets = packets_in rs; stop = refused fault }

-- these packets were read, up to the file's end or to what stops it
abbrev pub HasRead : Tables → (file : List ℕ) → List Ready → Result (Unit {0}) TraceFault → Type 0
HasRead t file rs (Ok u) = AreAll t file rs
HasRead t file rs (Err trace.Read) = Unit {0}
HasRead t file rs (Err trace.NoMemory) = Unit {0}
HasRead t file rs (Err (trace.Limit which count)) = AreBefore t file rs (trace.Limit which count)
HasRead t file rs (Err (trace.Packets line)) = AreBefore t file rs (trace.Packets line)
HasRead t file rs (Err trace.Write) = ⊥
HasRead t file rs (Err (trace.Undefined packet)) = ⊥

-- a packet of the line stands behind the others, and its port is one of the tables'
abbrev pub TakesLine : Tables → (packet : List ℕ) → Read_line → (before after : List Ready) → Type 0
TakesLine t packet read.Skip before after = after ≡ before
TakesLine t packet (read.Inject port) before after = (after ≡ before ++ record { port = port; packet = packet } ∷ [])
    × IsSome (port_at t port)
