-- How a run with changes comes from one packet to the next.
use Rattle.std.proofs.Common.{◌≡◌, ℕ, Bool, List, [], ◌∷◌, ◌++◌, Option, Ok, Err, take, length, refl, sym, ap, subst, ◌∙◌, arith}
use Rattle.std.specs.Prelude.{IsErrOf, is_some, slice_index}
use Rattle.std.proofs.KnownBytes.{Appends-nil}
use Rattle.snap_core.specs.Arrays.{zero_arrays}
use Rattle.snap_io.specs.Sinks.{AppendsSome}
use Rattle.snap_io.proofs.OutputLemmas.{waits-first, waits-same}
use Rattle.snap_rows.specs.declared.tables.Tables.{Tables}
use Rattle.snap_rows.specs.Entries.{port_at}
use Rattle.snap_rows.specs.Network.{done, start}
use Rattle.snap_net.specs.Shown.{Represents}
use Rattle.snap_report.specs.declared.fault.TraceFault.{TraceFault}
use Rattle.snap_report.specs.declared.fault.TraceFault.TheVariants.{Read, Write, Limit, Packets, Undefined, NoMemory}
use Rattle.snap_report.specs.OneSwitch.{RunEnding}
use Rattle.snap_report.specs.PacketLines.{said_by}
use Rattle.snap_report.specs.Reading.{spelled_where}
use Rattle.snap_report.specs.Reports.{end_text}
use Rattle.snap_report.specs.Runner.{PutsEnd as EndPut, Takes, WritesRun}
use Rattle.snap_report.specs.Spelled.{Spelled, Stop, ended, refused, spelled_behind}
use Rattle.snap_runs.specs.declared.frames.Frames.TheVariants.{Plain}
use Rattle.snap_runs.specs.declared.tracer.Tracer.{Tracer}
use Rattle.snap_runs.specs.Plain.{EndsAs, Writes}
use Rattle.snap_runs.specs.Reading.{has_port}
use Rattle.snap_runs.specs.Reports.{PutsEnd, array_names}
use Rattle.snap_runs.specs.Tracing.{HasTaken, TakesPacket}
use Rattle.snap_runs.proofs.Closing.{writes-as}
use Rattle.snap_runs.proofs.Readers.{accepted-ports}
use Rattle.snap_runs.specs.declared.later.Later.{Later}
use Rattle.snap_runs.specs.declared.mover.Mover.{Mover}
use Rattle.snap_runs.specs.Changing.{AreChangedBlocks, IsAhead, IsChangedReport, Passage, in_force}
use Rattle.snap_runs.specs.ChangedFiles.{AreChangedTraceBlocks, EndsAsRead, WritesChanged, spelled_under}
use Rattle.snap_runs.specs.Moving.{HasSettled, IsSettled, Stands, StandsBehind, left_in}
use Rattle.snap_runs.proofs.ChangesSettling.{force-now, shape-same, stands-taken}
use Rattle.snap_runs.proofs.Through.{blocks-push}

-- before the first packet
stands-first : (m : Mover) → Represents m.tracer.net (start m.tracer.net.tables zero_arrays) → Stands m.tracer.net.tables (left_in m) [] [] m
stands-first m shows = record {
  state = start m.tracer.net.tables zero_arrays;
  run = ([], done);
  shows = shows;
  rests = refl;
  injected = refl;
  as_many = refl;
  shape = shape-same m.tracer.net.tables;
  force = λ i within. refl;
}

-- and behind the change that is due there
pub behind-first : (first m : Mover) → Represents first.tracer.net (start first.tracer.net.tables zero_arrays) → first.tracer.frames ≡ Plain → HasSettled first m → m.tracer.hops ≡ first.tracer.hops → m.tracer.frames ≡ first.tracer.frames → StandsBehind first [] [] m
behind-first first m shows plain settled same kind = record {
  hops_same = same;
  frames_same = kind ∙ plain;
  turns = [];
  stood = settled first.tracer.net.tables (left_in first) [] [] (stands-first first shows);
  blocks = refl;
}

-- where memory is short before anything is read, nothing is written
pub none-written : (first : Tables) (later : List Later) (hops : Bool) (file : List ℕ) (out : Option (List ℕ)) → AppendsSome (AreChangedTraceBlocks first later hops file) out out
none-written first later hops file out = (
  [],
  (0, record { end = first; left = later; state = start first zero_arrays; turns = []; run = ([], done); blocks = refl }),
  (0, Appends-nil out),
)

module _ (first : Mover) (packets : List (List ℕ)) (text : List ℕ) (m : Mover) (c : StandsBehind first packets text m) where
  pub are-blocks : AreChangedBlocks first.tracer.net.tables (left_in first) first.tracer.hops packets text
  are-blocks = record { end = m.tracer.net.tables; left = left_in m; state = c.stood.state; turns = c.turns; run = c.stood.run; blocks = c.blocks }

  -- the tables in force for the next packet
  in-force : IsSettled m → in_force first.tracer.net.tables (left_in first) (length packets) ≡ m.tracer.net.tables
  in-force settled = c.stood.force (length packets) (omega arith)
      ∙ force-now m.tracer.net.tables (left_in m) (length packets) (subst (IsAhead (left_in m)) (sym c.stood.shows.injected ∙ c.stood.injected) settled)

  module _ (number port : ℕ) (k : List ℕ) (at : slice_index k 0 ≡ port) (settled : IsSettled m) (before after : List ℕ) where
    has-port : has_port (in_force first.tracer.net.tables (left_in first) (length packets)) k ≡ is_some (port_at m.tracer.net.tables port)
    has-port = λ i. is_some (port_at (in-force settled i) (at i))

    -- a packet was taken, and the change was made that is due behind it
    pub took : (m1 m' : Mover) → m1.later.items ≡ m.later.items → m1.tracer.net.tables ≡ m.tracer.net.tables → m1.tracer.hops ≡ m.tracer.hops → m1.tracer.frames ≡ m.tracer.frames → TakesPacket number port k m.tracer m1.tracer before after (Ok tt)
        → HasSettled m1 m' → m'.tracer.hops ≡ m1.tracer.hops → m'.tracer.frames ≡ m1.tracer.frames
        → Takes (StandsBehind first) (λ ks k' fault. ⊥) (has_port (in_force first.tracer.net.tables (left_in first) (length packets))) number k packets text m' before after (Ok tt)
    took m1 m' changes tables same kind takes settles same' kind' =
        let here = subst (λ p. HasTaken m.tracer.frames m.tracer.net.tables m.tracer.hops p k c.stood.state m1.tracer.net before after) (sym at) (takes.1 c.stood.state c.stood.shows c.stood.rests) in
        let taken : HasTaken Plain m.tracer.net.tables first.tracer.hops (slice_index k 0) k c.stood.state m1.tracer.net before after = subst (λ h. HasTaken Plain m.tracer.net.tables h (slice_index k 0) k c.stood.state m1.tracer.net before after) c.hops_same
        (subst (λ f. HasTaken f m.tracer.net.tables m.tracer.hops (slice_index k 0) k c.stood.state m1.tracer.net before after) c.frames_same here) in
        let turn : Passage = record { tables = m.tracer.net.tables; happenings = taken.happenings } in
        let gone = stands-taken m m1 changes tables settled first.tracer.hops k before after first.tracer.net.tables (left_in first) packets c.turns c.stood taken in (
          has-port ∙ takes.0,
          (
            taken.text,
            record {
              hops_same = same' ∙ same ∙ c.hops_same;
              frames_same = kind' ∙ kind ∙ c.frames_same;
              turns = c.turns ++ turn ∷ [];
              stood = settles first.tracer.net.tables (left_in first) (packets ++ k ∷ []) (c.turns ++ turn ∷ []) gone;
              blocks = blocks-push first.tracer.hops 0 c.stood.state.injected c.turns turn text taken.text (c.stood.injected ∙ sym c.stood.as_many ∙ omega arith) c.blocks taken.block;
            },
            taken.put,
          ),
        )

    -- or it can't be
    pub stuck : (v : Tracer) (m' : Mover) (fault : TraceFault) → TakesPacket number port k m.tracer v before after (Err fault)
        → Takes (StandsBehind first) (λ ks k' fault. ⊥) (has_port (in_force first.tracer.net.tables (left_in first) (length packets))) number k packets text m' before after (Err fault)
    stuck v m' (Packets line) takes = (takes.0, has-port ∙ ap (λ (o : Option ℕ). is_some o) takes.1, takes.2)
    stuck v m' NoMemory takes = tt
    stuck v m' Read takes = takes
    stuck v m' Write takes = takes
    stuck v m' (Limit which most) takes = takes
    stuck v m' (Undefined packet) takes = absurd takes

  -- no change is due, and the end of the report was put
  pub report-put : IsSettled m → (before after : List ℕ) → PutsEnd m.tracer.net before after → (out : Option (List ℕ))
      → EndPut (IsChangedReport first.tracer.net.tables (left_in first) first.tracer.hops packets) text out out before after (Ok tt)
  report-put settled before after put out =
      let s = c.stood in
      let h = put s.state s.shows in
      let end = end_text (array_names m.tracer.net.tables) h.0 in (
        end,
        record {
          ran = record { end = m.tracer.net.tables; left = left_in m; state = s.state; turns = c.turns; run = s.run; ahead = subst (IsAhead (left_in m)) (sym s.shows.injected) settled };
          report = record { blocks = text; are = c.blocks; entries = h.0; listed = h.1; is = refl };
        },
        waits-same out out (before ++ end) (before ++ end) (before ++ end) after refl h.2 (waits-first out (before ++ end)),
      )

-- ---- what goes out
spelled-ports : (first : Tables) (later : List Later) (file : List ℕ) → spelled_where first.fields (λ n. has_port (in_force first later n)) file ≡ spelled_under first later file
spelled-ports first later file = λ i. spelled_behind (λ n line. accepted-ports (in_force first later n) (said_by first.fields line) i) file 1000000 1 0 0

ends-so : (first : Tables) (later : List Later) (hops : Bool) (ks : List (List ℕ)) (stop : Stop) (ending : RunEnding) (text : List ℕ) → EndsAs (AreChangedBlocks first later hops) (IsChangedReport first later hops) ks stop ending text → EndsAsRead first later hops ks stop ending text
ends-so first later hops ks ended ending text h = h
ends-so first later hops ks (refused fault) ending text h = h

pub changed-of-run : (m : Mover) (file : List ℕ) (ending : RunEnding) → ((k : ℕ) → IsErrOf ending (Undefined k) → ⊥) → (old now : Option (List ℕ))
    → WritesRun (StandsBehind m) (λ ks text. IsChangedReport m.tracer.net.tables (left_in m) m.tracer.hops ks text) (λ ks k fault. ⊥) (spelled_where m.tracer.net.tables.fields (λ n. has_port (in_force m.tracer.net.tables (left_in m) n)) file) ending old now
    → WritesChanged m.tracer.net.tables (left_in m) m.tracer.hops file ending old now
changed-of-run m file ending defined old now w =
    let first = m.tracer.net.tables in
    let later = left_in m in
    let hops = m.tracer.hops in
    let all = spelled_where first.fields (λ n. has_port (in_force first later n)) file in
    subst (λ (s : Spelled). Writes (λ text. (count : ℕ) × AreChangedBlocks first later hops (take count s.packets) text) (λ e text. EndsAsRead first later hops s.packets s.stop e text) ending old now) (spelled-ports first later file)
    (writes-as (StandsBehind m) (IsChangedReport first later hops) (AreChangedBlocks first later hops) (IsChangedReport first later hops) (are-blocks m) (λ ks text h. h) all (λ e text. EndsAsRead first later hops all.packets all.stop e text)
    (ends-so first later hops all.packets all.stop) ending defined old now w)
