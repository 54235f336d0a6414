-- The report of the plain run of tables over a packets file.
use Rattle.std.specs.Prelude.{◌≡◌, ◌⊎◌, ℕ, Bool, List, map, length, take, slice_index, is_some, Ok, Err, if◌then◌else◌}
use Rattle.std.specs.declared.option.Option.{Option}
use Rattle.std.specs.Io.KnownBytes.{Appends}
use Rattle.snap_core.specs.Arrays.{zero_arrays}
use Rattle.snap_io.specs.Sinks.{AppendsSome}
use Rattle.snap_rows.specs.declared.tables.Tables.{Tables}
use Rattle.snap_rows.specs.Entries.{port_at}
use Rattle.snap_rows.specs.Network.{Event, Happening, IsPlainRun, Net}
use Rattle.snap_report.specs.declared.fault.TraceFault.TheVariants.{Read, Write, Undefined, NoMemory}
use Rattle.snap_report.specs.OneSwitch.{RunEnding}
use Rattle.snap_report.specs.PacketLines.{Said, skip, inject, bad, said_by}
use Rattle.snap_report.specs.Spelled.{Spelled, Stop, ended, refused, spelled_by}
use Rattle.snap_runs.specs.declared.frames.Frames.{Frames}
use Rattle.snap_runs.specs.declared.frames.Frames.TheVariants as frames
use Rattle.snap_runs.specs.Reports.{AreBlocksBy, IsRunReportBy}

-- a packet that comes in at no port of the tables isn't in form
abbrev pub at_ports : Tables → Said → Said
at_ports t skip = skip
at_ports t (inject packet) = if is_some (port_at t (slice_index packet 0)) then inject packet else bad
at_ports t bad = bad

-- what a file of packets spells for tables
abbrev pub spelled_for : Tables → (file : List ℕ) → Spelled
spelled_for t file = spelled_by (λ line. at_ports t (said_by t.fields line)) file

-- packets with the ports at which they come in
abbrev pub entering : List (List ℕ) → List (ℕ × List ℕ)
entering ks = map (λ k. (slice_index k 0, k)) ks

-- from empty arrays the plain run of these packets has this report,
pub record IsPlainReportBy (f : Frames) (t : Tables) (hops : Bool) (ks : List (List ℕ)) (text : List ℕ) : Type 0 where
  pub events : List Event
  pub end : Net
  pub happenings : List Happening
  pub run : IsPlainRun t zero_arrays (entering ks) events end happenings
  pub report : IsRunReportBy f t hops (length ks) end happenings text

-- and these are its blocks
pub record ArePlainBlocksBy (f : Frames) (t : Tables) (hops : Bool) (ks : List (List ℕ)) (text : List ℕ) : Type 0 where
  pub events : List Event
  pub end : Net
  pub happenings : List Happening
  pub run : IsPlainRun t zero_arrays (entering ks) events end happenings
  pub blocks : AreBlocksBy f t hops (length ks) happenings text

-- the same with frames as they are
abbrev pub IsPlainReport : Tables → (hops : Bool) → List (List ℕ) → List ℕ → Type 0
IsPlainReport t hops ks text = IsPlainReportBy frames.Plain t hops ks text

abbrev pub ArePlainBlocks : Tables → (hops : Bool) → List (List ℕ) → List ℕ → Type 0
ArePlainBlocks t hops ks text = ArePlainBlocksBy frames.Plain t hops ks text

-- The run of the packets that were read, with these blocks or this report, ends as reading did; where that came to the
-- file's end, with its whole report.
abbrev pub EndsAs : (Blocks Report : List (List ℕ) → List ℕ → Type 0) → List (List ℕ) → Stop → RunEnding → List ℕ → Type 0
EndsAs Blocks Report ks ended ending text = (ending ≡ Ok tt) × Report ks text
EndsAs Blocks Report ks (refused fault) ending text = (ending ≡ Err fault) × Blocks ks text

abbrev pub EndsAsReadBy : Frames → Tables → (hops : Bool) → List (List ℕ) → Stop → RunEnding → List ℕ → Type 0
EndsAsReadBy f t hops ks stop ending text = EndsAs (ArePlainBlocksBy f t hops) (IsPlainReportBy f t hops) ks stop ending text

abbrev pub EndsAsRead : Tables → (hops : Bool) → List (List ℕ) → Stop → RunEnding → List ℕ → Type 0
EndsAsRead t hops ks stop ending text = EndsAsReadBy frames.Plain t hops ks stop ending text

-- how a run over a file ends, and what is reported
abbrev pub IsTraceBy : Frames → Tables → (hops : Bool) → (file : List ℕ) → RunEnding → List ℕ → Type 0
IsTraceBy f t hops file ending text = EndsAsReadBy f t hops (spelled_for t file).packets (spelled_for t file).stop ending text

abbrev pub IsTrace : Tables → (hops : Bool) → (file : List ℕ) → RunEnding → List ℕ → Type 0
IsTrace t hops file ending text = IsTraceBy frames.Plain t hops file ending text

-- the blocks of some first packets that the file spells
abbrev pub AreTraceBlocksBy : Frames → Tables → (hops : Bool) → (file : List ℕ) → List ℕ → Type 0
AreTraceBlocksBy f t hops file text = (count : ℕ) × ArePlainBlocksBy f t hops (take count (spelled_for t file).packets) text

abbrev pub AreTraceBlocks : Tables → (hops : Bool) → (file : List ℕ) → List ℕ → Type 0
AreTraceBlocks t hops file text = AreTraceBlocksBy frames.Plain t hops file text

abbrev pub HasTrace : Tables → (hops : Bool) → (file : List ℕ) → List ℕ → Type 0
HasTrace t hops file text = (ending : RunEnding) × IsTrace t hops file ending text

-- The run ended as the file deserves, and its whole report went out. Or a device failed or memory was short, and some
-- first bytes of blocks have gone out; where the sink failed, perhaps of what stands behind them too.
abbrev pub Writes : (Blocks : List ℕ → Type 0) → (Ends : RunEnding → List ℕ → Type 0)
    → RunEnding → Option (List ℕ) → Option (List ℕ) → Type 0
Writes Blocks Ends (Err Read) old new = AppendsSome Blocks old new
Writes Blocks Ends (Err NoMemory) old new = AppendsSome Blocks old new
Writes Blocks Ends (Err Write) old new = AppendsSome Blocks old new ⊎ AppendsSome (λ text. (ending : RunEnding) × Ends ending text) old new
Writes Blocks Ends (Err (Undefined packet)) old new = ⊥
Writes Blocks Ends ending old new = (text : List ℕ) × Ends ending text × Appends old new text

-- the same of the plain run of tables
abbrev pub WritesTraceBy : Frames → Tables → (hops : Bool) → (file : List ℕ) → RunEnding → Option (List ℕ) → Option (List ℕ) → Type 0
WritesTraceBy f t hops file ending old new = Writes (AreTraceBlocksBy f t hops file) (IsTraceBy f t hops file) ending old new

abbrev pub WritesTrace : Tables → (hops : Bool) → (file : List ℕ) → RunEnding → Option (List ℕ) → Option (List ℕ) → Type 0
WritesTrace t hops file ending old new = WritesTraceBy frames.Plain t hops file ending old new
