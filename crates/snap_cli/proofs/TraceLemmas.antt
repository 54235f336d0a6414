-- What `trace` did, from what its steps did.
use Rattle.std.proofs.Common.{◌≡◌, ◌≤◌, ℕ, Bool, List, [], Option, Result, Ok, Err, length, refl, sym, ap, subst, inl, inr}
use Rattle.snap_tables.specs.declared.fault.TablesFault.{TablesFault}
use Rattle.snap_tables.specs.declared.fault.TablesFault.TheVariants as tables
use Rattle.snap_report.specs.declared.fault.TraceFault.TheVariants as run
use Rattle.snap_runs.specs.Plain.{IsTrace, WritesTrace}
use Rattle.snap_runs.specs.Schedules.{WritesSchedule}
use Rattle.snap_words.specs.declared.command.Order.{Order as Given}
use Rattle.snap_words.specs.declared.command.Order.TheVariants as given
use Rattle.snap_words.specs.Said.{shown_order}
use Rattle.snap_cli.specs.RunSteps.{ending_of_schedule}
use Rattle.snap_cli.specs.TablesOf.{SpellsTables}
use Rattle.snap_cli.specs.Texts.{GivesText}
use Rattle.snap_cli.specs.Trace.{EndsTrace, IsTraceText}
use Rattle.snap_cli.specs.TraceSteps.{LoadsTables, MeetsOrder, ReadsTables, refusal_of_tables}
use Rattle.snap_cli.proofs.Shared.{Appends, Bor, Command, Ending, ending_of_run, Ends, file_of, Files, HasScheduleReport, IsRead, IsRunEnding, IsText, IsTooLong, Limit, MayPrecedeRead, Meets, Order, Packets, plain, Refusal, RefusesScheduleLine, RunEnding, schedule, ScheduleFault, Tables, TablesOf, trace}
use Rattle.snap_cli.proofs.ChangesLemmas.{meets-changes}
use Rattle.snap_cli.proofs.InOrderLemmas.{meets-in_order}
use Rattle.snap_cli.proofs.RoundsLemmas.{meets-by_rounds}
use Rattle.snap_cli.proofs.RefusedBy.{by-map, meets-by}
use Rattle.snap_cli.proofs.ScheduleLemmas.{EndsSo, meets-scheduled}

-- ---- the tables of a file

reads-refused : (text : List ℕ) (fault : TablesFault) → IsRead text (Err fault) → ReadsTables text (Err (refusal_of_tables fault))
reads-refused text tables.NoMemory h = tt
reads-refused text fault h = h

pub reads-told : (text : List ℕ) (fault : TablesFault) (e : Refusal) → e ≡ refusal_of_tables fault → IsRead text (Err fault) → ReadsTables text (Err e)
reads-told text fault e is h = subst (λ x. ReadsTables text (Err x)) (sym is) (reads-refused text fault h)

pub loads-read : (name file : List ℕ) (r : Result Tables Refusal) → length file ≤ 67108864 → ReadsTables file r → LoadsTables name file r
loads-read name file (Ok t) short h = inr (short, h)
loads-read name file (Err e) short h =
    by-map (λ failed. ⊥) (λ failed. failed ≡ name) (λ x. SpellsTables file (Err x)) (λ x. TablesOf file (Err x)) (λ failed no. absurd no) (λ x no. inr (short, no)) e h

pub loads-none : (name file : List ℕ) (e : Refusal) → GivesText 67108864 name file (Err e) → LoadsTables name file (Err e)
loads-none name file e h =
    by-map (λ failed. failed ≡ name) (λ failed. failed ≡ name) (IsTooLong 67108864 file) (λ x. TablesOf file (Err x)) (λ failed is. is) (λ x no. inl (no.0, ap (λ y. Err y) no.1)) e h

-- ---- the command

-- the tables were read, and this is what their plain run did
module _ (files : Files) (name : List ℕ) (packets : Bor (List ℕ)) (hops : Bool) (t : Tables) (spelled : TablesOf (file_of files name) (Ok t)) (old new : Option (List ℕ)) where
  whole-run : (r : RunEnding) (e : Ending) → IsRunEnding r e → (text : List ℕ) × IsTrace t hops (file_of files packets.now) r text × Appends old new text
      → EndsTrace files name packets.now hops plain e × ((text : List ℕ) × IsTraceText files name packets.now hops plain text × Appends old new text)
  whole-run r e is m = (inr (t, spelled, (m.0, (r, m.1, is))), (m.0, inr (t, spelled, (r, m.1)), m.2))

  meets-run : (r : RunEnding) → WritesTrace t hops (file_of files packets.now) r old new → Meets files (trace name packets.now hops plain) (ending_of_run packets r) old new
  meets-run (Ok u) m = whole-run (Ok u) (Ok tt) refl m
  meets-run (Err run.Read) m = (m.0, inr (t, spelled, (refl, m.1)), m.2)
  meets-run (Err run.NoMemory) m = (m.0, inr (t, spelled, m.1), m.2)
  meets-run (Err run.Write) (inl m) = inl (m.0, inr (t, spelled, m.1), m.2)
  meets-run (Err run.Write) (inr m) = inr (m.0, inr (t, spelled, m.1), m.2)
  meets-run (Err (run.Limit which count)) m = whole-run (Err (run.Limit which count)) (Err (Limit which count)) refl m
  meets-run (Err (run.Packets line)) m = whole-run (Err (run.Packets line)) (Err (Packets line)) refl m
  meets-run (Err (run.Undefined packet)) m = absurd m

-- the tables were read, and this is what their run did in the order of a schedule
module _ (files : Files) (name : List ℕ) (packets lines : Bor (List ℕ)) (hops : Bool) (t : Tables) (spelled : TablesOf (file_of files name) (Ok t)) (old new : Option (List ℕ)) where
  abbrev file : List ℕ
  file = file_of files packets.now

  abbrev text : List ℕ
  text = file_of files lines.now

  abbrev command : Command
  command = trace name packets.now hops (schedule lines.now)

  abbrev Reports : List ℕ → Type 0
  Reports = HasScheduleReport t hops file text

  abbrev Refuses : ℕ → Type 0
  Refuses = RefusesScheduleLine t file text

  so : EndsSo files command packets.now lines.now t Reports Refuses
  so = record {
    ends = λ e out h. (inr (t, spelled, (out, h)), inr (t, spelled, (e, h)));
    memory = inl refl;
    read = λ failed is. inr (t, spelled, (is, refl));
  }

  meets-schedule : (r : Result (Unit {0}) ScheduleFault) → WritesSchedule t hops file text r old new → Meets files command (ending_of_schedule packets lines r) old new
  meets-schedule r m = meets-scheduled files command packets lines t Reports Refuses so old new r m

pub meets-order : (files : Files) (name : List ℕ) (packets : Bor (List ℕ)) (hops : Bool) (o : Given) (t : Tables) → TablesOf (file_of files name) (Ok t) → (old new : Option (List ℕ)) (e : Ending)
    → MeetsOrder files t hops packets o e old new → Meets files (trace name packets.now hops (shown_order o)) e old new
meets-order files name packets hops given.Plain t spelled old new e m =
    subst (λ x. Meets files (trace name packets.now hops plain) x old new) (sym m.2) (meets-run files name packets hops t spelled old new m.0 m.1)
meets-order files name packets hops (given.Schedule lines) t spelled old new e m =
    subst (λ x. Meets files (trace name packets.now hops (schedule lines.now)) x old new) (sym m.2) (meets-schedule files name packets lines hops t spelled old new m.0 m.1)
meets-order files name packets hops (given.Changes lines) t spelled old new e m = meets-changes files name packets lines.now hops t spelled old new e m
meets-order files name packets hops (given.InOrder lines) t spelled old new e m = meets-in_order files name packets hops t spelled old new lines e m
meets-order files name packets hops (given.Rounds workers) t spelled old new e m = meets-by_rounds files name packets hops workers.value t spelled old new e m

pub meets-refused : (files : Files) (name packets : List ℕ) (hops : Bool) (order : Order) (out : Option (List ℕ)) (e : Refusal) → LoadsTables name (file_of files name) (Err e)
    → Meets files (trace name packets hops order) (Err e) out out
meets-refused files name packets hops order out e h =
    let command = trace name packets hops order in
    meets-by files command out e (inl refl)
    (by-map (λ failed. failed ≡ name) (λ failed. MayPrecedeRead files command failed []) (λ x. TablesOf (file_of files name) (Err x)) (λ x. Ends files command (Err x) × IsText files command [])
    (λ failed is. inl (is, refl)) (λ x no. (inl (x, no, refl), inl (x, no, refl))) e h)
