-- What goes out of plain runs in order.
use Rattle.std.proofs.Common.{◌≡◌, ℕ, Bool, List, Option, Ok, Err, inl, inr, sym, subst}
use Rattle.std.specs.Prelude.{length, take}
use Rattle.snap_core.specs.Arrays.{zero_arrays}
use Rattle.snap_rows.specs.declared.tables.Tables.{Tables}
use Rattle.snap_rows.specs.Form.{IsWellFormed}
use Rattle.snap_rows.specs.Rules.{IsValid}
use Rattle.snap_report.specs.declared.fault.TraceFault.TheVariants as trace
use Rattle.snap_report.specs.OneSwitch.{RunEnding}
use Rattle.snap_report.specs.Spelled.{Stop, ended, refused}
use Rattle.snap_runs.specs.declared.frames.Frames.TheVariants.{Numbered}
use Rattle.snap_runs.specs.Plain.{ArePlainBlocksBy, AreTraceBlocksBy, EndsAsReadBy, IsPlainReportBy, IsTraceBy, Writes, WritesTraceBy, entering, spelled_for}
use Rattle.snap_order.specs.Ordered.{happenings}
use Rattle.snap_order.specs.Reports.{AreBlocks, IsRunReport}
use Rattle.snap_order.specs.Runs.{ArePlainBlocks, AreTraceBlocks, EndsAsRead, IsPlainReport, IsTrace, WritesTrace}
use Rattle.snap_order.proofs.PlainTurns.{plain_turns}

-- what is written where other blocks and ends are told
written_as : (Blocks Others : List ℕ → Type 0) (Ends Ended : RunEnding → List ℕ → Type 0) → ((text : List ℕ) → Blocks text → Others text) → ((ending : RunEnding) (text : List ℕ) → Ends ending text → Ended ending text)
    → (ending : RunEnding) (old new : Option (List ℕ)) → Writes Blocks Ends ending old new → Writes Others Ended ending old new
written_as Blocks Others Ends Ended blocks ends (Err trace.Read) old new w = (w.0, blocks w.0 w.1, w.2)
written_as Blocks Others Ends Ended blocks ends (Err trace.NoMemory) old new w = (w.0, blocks w.0 w.1, w.2)
written_as Blocks Others Ends Ended blocks ends (Err trace.Write) old new (inl w) = inl (w.0, blocks w.0 w.1, w.2)
written_as Blocks Others Ends Ended blocks ends (Err trace.Write) old new (inr w) = inr (w.0, (w.1.0, ends w.1.0 w.0 w.1.1), w.2)
written_as Blocks Others Ends Ended blocks ends (Err (trace.Undefined packet)) old new w = absurd w
written_as Blocks Others Ends Ended blocks ends (Err (trace.Limit which count)) old new w = (w.0, ends (Err (trace.Limit which count)) w.0 w.1, w.2)
written_as Blocks Others Ends Ended blocks ends (Err (trace.Packets line)) old new w = (w.0, ends (Err (trace.Packets line)) w.0 w.1, w.2)
written_as Blocks Others Ends Ended blocks ends (Ok u) old new w = (w.0, ends (Ok u) w.0 w.1, w.2)

-- the plain run is one in order, with the same report
module _ (t : Tables) (form : IsWellFormed t) (valid : IsValid t) (version : t.version ≡ 2) (hops : Bool) where
  blocks_in_order : (ks : List (List ℕ)) (text : List ℕ) → ArePlainBlocksBy Numbered t hops ks text → ArePlainBlocks t hops ks text
  blocks_in_order ks text b =
      let x = plain_turns t form valid version zero_arrays (entering ks) b.events b.end b.happenings b.run in
      record { events = b.events; end = x.end; turns = x.turns; run = x.run; blocks = subst (λ hs. AreBlocks t hops (length ks) hs text) (sym x.told) b.blocks }

  report_in_order : (ks : List (List ℕ)) (text : List ℕ) → IsPlainReportBy Numbered t hops ks text → IsPlainReport t hops ks text
  report_in_order ks text r =
      let x = plain_turns t form valid version zero_arrays (entering ks) r.events r.end r.happenings r.run in
      record {
        events = r.events;
        end = x.end;
        turns = x.turns;
        run = x.run;
        report = subst (λ s. IsRunReport t hops (length ks) s (happenings x.turns) text) (sym x.net) (subst (λ hs. IsRunReport t hops (length ks) r.end hs text) (sym x.told) r.report);
      }

  ends_in_order : (ks : List (List ℕ)) (stop : Stop) (ending : RunEnding) (text : List ℕ) → EndsAsReadBy Numbered t hops ks stop ending text → EndsAsRead t hops ks stop ending text
  ends_in_order ks ended ending text e = (e.0, report_in_order ks text e.1)
  ends_in_order ks (refused fault) ending text e = (e.0, blocks_in_order ks text e.1)

  pub trace_in_order : (file : List ℕ) (ending : RunEnding) (old new : Option (List ℕ)) → WritesTraceBy Numbered t hops file ending old new → WritesTrace t hops file ending old new
  trace_in_order file ending old new w =
      let read = spelled_for t file in
      written_as (AreTraceBlocksBy Numbered t hops file) (AreTraceBlocks t hops file) (IsTraceBy Numbered t hops file) (IsTrace t hops file)
      (λ text b. (b.0, blocks_in_order (take b.0 read.packets) text b.1)) (λ e text x. ends_in_order read.packets read.stop e text x) ending old new w
