-- How a run ends.
use Rattle.std.proofs.Common.{ℕ, Bool, List, [], Option, Ok, Err, take, refl, sym, subst, inl, inr}
use Rattle.std.specs.Prelude.{IsErrOf}
use Rattle.std.proofs.KnownBytes.{Appends-nil}
use Rattle.std.proofs.lemmas.List.Elements.{All-nil}
use Rattle.snap_core.specs.Arrays.{zero_arrays}
use Rattle.snap_rows.specs.declared.tables.Tables.{Tables}
use Rattle.snap_rows.specs.Network.{StepsFirst, start, rests}
use Rattle.snap_report.specs.declared.fault.TraceFault.TheVariants.{Read, Write, Limit, Packets, Undefined, NoMemory}
use Rattle.snap_report.specs.OneSwitch.{RunEnding}
use Rattle.snap_report.specs.Reading.{spelled_where}
use Rattle.snap_report.specs.Runner.{Ends, FirstBlocks, WritesRun}
use Rattle.snap_report.specs.Spelled.{Spelled}
use Rattle.snap_runs.specs.declared.frames.Frames.{Frames}
use Rattle.snap_runs.specs.declared.tracer.Tracer.{Tracer}
use Rattle.snap_runs.specs.Plain.{ArePlainBlocksBy, EndsAs, IsPlainReportBy, Writes, WritesTraceBy}
use Rattle.snap_runs.specs.Reading.{has_port}
use Rattle.snap_runs.specs.Tracing.{Stands}
use Rattle.snap_runs.proofs.Blocks.{blocks-none}
use Rattle.snap_runs.proofs.Coming.{are-blocks}
use Rattle.snap_runs.proofs.Readers.{spelled-ports}

-- the run of a machine that refuses no packet
module _ {M : Type 0} (stands : List (List ℕ) → List ℕ → M → Type 0) (reports Blocks Report : List (List ℕ) → List ℕ → Type 0) (blocks : (packets : List (List ℕ)) (text : List ℕ) (m : M) → stands packets text m → Blocks packets text)
    (report : (packets : List (List ℕ)) (text : List ℕ) → reports packets text → Report packets text) (all : Spelled)
  where
    first-as : (text : List ℕ) → FirstBlocks stands all text → (count : ℕ) × Blocks (take count all.packets) text
    first-as text b = (b.count, blocks (take b.count all.packets) text b.machine b.stood)

    ends-as : (ending : RunEnding) (text : List ℕ) → Ends stands reports (λ ks k fault. ⊥) all ending text → EndsAs Blocks Report all.packets all.stop ending text
    ends-as (Ok u) text h = subst (λ stop. EndsAs Blocks Report all.packets stop (Ok u) text) (sym h.0) (refl, report all.packets text h.1)
    ends-as (Err fault) text (inl s) = subst (λ stop. EndsAs Blocks Report all.packets stop (Err fault) text) (sym s.stop) (refl, blocks all.packets text s.machine s.stood)
    ends-as (Err fault) text (inr cut) = absurd cut.refused_so

    pub writes-as : (Ended : RunEnding → List ℕ → Type 0) → ((ending : RunEnding) (text : List ℕ) → EndsAs Blocks Report all.packets all.stop ending text → Ended ending text)
        → (ending : RunEnding) → ((k : ℕ) → IsErrOf ending (Undefined k) → ⊥) → (old now : Option (List ℕ)) → WritesRun stands reports (λ ks k fault. ⊥) all ending old now → Writes (λ text. (count : ℕ) × Blocks (take count all.packets) text) Ended ending old now
    writes-as Ended ends (Err Read) defined old now w = (w.0, first-as w.0 w.1, w.2)
    writes-as Ended ends (Err NoMemory) defined old now w = (w.0, first-as w.0 w.1, w.2)
    writes-as Ended ends (Err Write) defined old now (inl w) = inl (w.0, first-as w.0 w.1, w.2)
    writes-as Ended ends (Err Write) defined old now (inr w) = inr (w.0, (w.1.0, ends w.1.0 w.0 (ends-as w.1.0 w.0 w.1.1)), w.2)
    writes-as Ended ends (Err (Undefined k)) defined old now w = absurd (defined k refl)
    writes-as Ended ends (Err (Limit which count)) defined old now w = (w.0, ends (Err (Limit which count)) w.0 (ends-as (Err (Limit which count)) w.0 w.1), w.2)
    writes-as Ended ends (Err (Packets line)) defined old now w = (w.0, ends (Err (Packets line)) w.0 (ends-as (Err (Packets line)) w.0 w.1), w.2)
    writes-as Ended ends (Ok u) defined old now w = (w.0, ends (Ok u) w.0 (ends-as (Ok u) w.0 w.1), w.2)

-- the run of a network that stands at its beginning
pub trace-of-run : (v : Tracer) (file : List ℕ) (ending : RunEnding) → ((k : ℕ) → IsErrOf ending (Undefined k) → ⊥) → (old now : Option (List ℕ))
    → WritesRun (Stands v) (λ ks text. IsPlainReportBy v.frames v.net.tables v.hops ks text) (λ ks k fault. ⊥) (spelled_where v.net.tables.fields (λ n. has_port v.net.tables) file) ending old now
    → WritesTraceBy v.frames v.net.tables v.hops file ending old now
trace-of-run v file ending defined old now w =
    let Blocks : List (List ℕ) → List ℕ → Type 0 = λ ks text. ArePlainBlocksBy v.frames v.net.tables v.hops ks text in
    let Report : List (List ℕ) → List ℕ → Type 0 = λ ks text. IsPlainReportBy v.frames v.net.tables v.hops ks text in
    let all = spelled_where v.net.tables.fields (λ n. has_port v.net.tables) file in
    subst (λ (s : Spelled). Writes (λ text. (count : ℕ) × Blocks (take count s.packets) text) (λ e text. EndsAs Blocks Report s.packets s.stop e text) ending old now) (spelled-ports v.net.tables file)
    (writes-as (Stands v) Report Blocks Report (are-blocks v) (λ ks text h. h) all (λ e text. EndsAs Blocks Report all.packets all.stop e text) (λ e text h. h) ending defined old now w)

-- where memory is short before anything is read, nothing is written
pub writes-nothing : (f : Frames) (t : Tables) (hops : Bool) (file : List ℕ) (out : Option (List ℕ)) → WritesTraceBy f t hops file (Err NoMemory) out out
writes-nothing f t hops file out = (
  [],
  (
    0,
    record {
      events = [];
      end = start t zero_arrays;
      happenings = [];
      run = record { packets = refl; first = All-nil StepsFirst; run = rests; ended = refl };
      blocks = blocks-none f t hops;
    },
  ),
  (0, Appends-nil out),
)
