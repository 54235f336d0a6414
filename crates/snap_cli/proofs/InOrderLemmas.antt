-- What a run in order did, as the command tells it.
use Rattle.std.proofs.Common.{◌≡◌, ℕ, Bool, List, [], Option, Some, None, Result, Ok, Err, refl, sym, subst, inl, inr}
use Rattle.snap_report.specs.declared.fault.TraceFault.TheVariants as run
use Rattle.snap_order.specs.Runs.{HasScheduleReport, IsTrace, RefusesScheduleLine, WritesSchedule, WritesTrace}
use Rattle.snap_cli.specs.InOrderSteps.{MeetsInOrder, MeetsTurns}
use Rattle.snap_cli.specs.RunSteps.{ending_of_schedule}
use Rattle.snap_cli.proofs.Shared.{Appends, Bor, Command, Ending, ending_of_run, Ends, file_of, Files, in_order, IsRunEnding, IsText, Limit, Meets, option_map, Packets, RunEnding, ScheduleFault, Tables, TablesOf, trace, VersionOne}
use Rattle.snap_cli.proofs.ScheduleLemmas.{EndsSo, meets-scheduled, nothing_out}

module _ (files : Files) (name : List ℕ) (packets : Bor (List ℕ)) (hops : Bool) (t : Tables) (spelled : TablesOf (file_of files name) (Ok t)) (old new : Option (List ℕ)) where
  abbrev file : List ℕ
  file = file_of files packets.now

  abbrev ordered : Option (List ℕ) → Command
  ordered lines = trace name packets.now hops (in_order lines)

  -- tables of version 1
  version_one : (lines : Option (List ℕ)) → t.version ≡ 1 → new ≡ old → Meets files (ordered lines) (Err VersionOne) old new
  version_one lines one same = (inr (t, spelled, ([], inl (one, refl, refl))), ([], inr (t, spelled, inl (one, refl)), nothing_out old new same))

  module _ (two : t.version ≡ 2) where
    -- one packet after the other
    abbrev each : Command
    each = ordered None

    ended_so : (r : RunEnding) (e : Ending) → IsRunEnding r e → (text : List ℕ) × IsTrace t hops file r text × Appends old new text → Ends files each e × ((text : List ℕ) × IsText files each text × Appends old new text)
    ended_so r e is m = (inr (t, spelled, (m.0, inr (two, (r, m.1, is)))), (m.0, inr (t, spelled, inr (two, (r, m.1))), m.2))

    meets-each : (r : RunEnding) → WritesTrace t hops file r old new → Meets files each (ending_of_run packets r) old new
    meets-each (Ok u) m = ended_so (Ok u) (Ok tt) refl m
    meets-each (Err run.Read) m = (m.0, inr (t, spelled, (two, (refl, m.1))), m.2)
    meets-each (Err run.NoMemory) m = (m.0, inr (t, spelled, (two, m.1)), m.2)
    meets-each (Err run.Write) (inl m) = inl (m.0, inr (t, spelled, (two, m.1)), m.2)
    meets-each (Err run.Write) (inr m) = inr (m.0, inr (t, spelled, inr (two, m.1)), m.2)
    meets-each (Err (run.Limit which count)) m = ended_so (Err (run.Limit which count)) (Err (Limit which count)) refl m
    meets-each (Err (run.Packets line)) m = ended_so (Err (run.Packets line)) (Err (Packets line)) refl m
    meets-each (Err (run.Undefined packet)) m = absurd m

    -- in the order of a schedule
    module _ (lines : Bor (List ℕ)) where
      abbrev text : List ℕ
      text = file_of files lines.now

      abbrev command : Command
      command = ordered (Some lines.now)

      abbrev Reports : List ℕ → Type 0
      Reports = HasScheduleReport t hops file text

      abbrev Refuses : ℕ → Type 0
      Refuses = RefusesScheduleLine t file text

      so : EndsSo files command packets.now lines.now t Reports Refuses
      so = record {
        ends = λ e out h. (inr (t, spelled, (out, inr (two, h))), inr (t, spelled, inr (two, (e, h))));
        memory = inl refl;
        read = λ failed is. inr (t, spelled, (two, (is, refl)));
      }

      meets-lines : (r : Result (Unit {0}) ScheduleFault) → WritesSchedule t hops file text r old new → Meets files command (ending_of_schedule packets lines r) old new
      meets-lines r m = meets-scheduled files command packets lines t Reports Refuses so old new r m

    meets-turns : (lines : Option (Bor (List ℕ))) (e : Ending) → MeetsTurns files t hops packets lines e old new → Meets files (ordered (option_map (λ l. l.now) lines)) e old new
    meets-turns None e m = subst (λ x. Meets files each x old new) (sym m.2) (meets-each m.0 m.1)
    meets-turns (Some lines) e m = subst (λ x. Meets files (command lines) x old new) (sym m.2) (meets-lines lines m.0 m.1)

  pub meets-in_order : (lines : Option (Bor (List ℕ))) (e : Ending) → MeetsInOrder files t hops packets lines e old new → Meets files (ordered (option_map (λ l. l.now) lines)) e old new
  meets-in_order lines e (inl m) = subst (λ x. Meets files (ordered (option_map (λ l. l.now) lines)) x old new) (sym m.1) (version_one (option_map (λ l. l.now) lines) m.0 m.2)
  meets-in_order lines e (inr m) = meets-turns m.0 lines e m.1
