-- What a command did whose run is ordered by a schedule, from what the run wrote.
use Rattle.std.proofs.Common.{◌≡◌, ℕ, List, [], Option, Result, Ok, Err, refl, sym, subst, inl, inr}
use Rattle.std.specs.Prelude.{IsErrOf}
use Rattle.snap_core.specs.declared.program.Which.TheVariants.{Bytes}
use Rattle.snap_io.specs.Causes.{Rose}
use Rattle.snap_io.specs.Sinks.{AppendsSome}
use Rattle.snap_report.specs.declared.fault.TraceFault.TheVariants as run
use Rattle.snap_runs.specs.Schedules.{WritesScheduleBy}
use Rattle.snap_runs.specs.declared.schedule.ScheduleFault.TheVariants as order
use Rattle.snap_cli.specs.Causes.{HasCauses}
use Rattle.snap_cli.specs.declared.refusal.Refusal.TheVariants.{Schedule}
use Rattle.snap_cli.specs.RunSteps.{ending_of_schedule, refusal_of_schedule}
use Rattle.snap_cli.specs.Schedule.{IsOfSchedule}
use Rattle.snap_cli.proofs.Shared.{Appends, Appends-nil, Bor, Command, Ending, Ends, EndsBySchedule, file_of, Files, IsRunEnding, IsText, Limit, MayPrecede, MayPrecedeRead, Meets, NoMemory, Packets, Read, refused, ScheduleFault, spelled_for, Tables, TraceFault, Write}

-- ---- nothing went out
pub nothing_out : (old new : Option (List ℕ)) → new ≡ old → Appends old new []
nothing_out old new same = subst (λ x. Appends old x []) (sym same) (Appends-nil old)

pub none_of : (P : List ℕ → Type 0) (old new : Option (List ℕ)) → P [] → new ≡ old → AppendsSome P old new
none_of P old new h same = ([], h, (0, nothing_out old new same))

-- ---- the run
-- what the command deserves: the run has these reports, or refuses these lines
pub record EndsSo (files : Files) (command : Command) (packets lines : List ℕ) (t : Tables) (Reports : List ℕ → Type 0) (Refuses : ℕ → Type 0) : Type 0 where
  pub ends : (e : Ending) (out : List ℕ) → EndsBySchedule t (file_of files packets) (file_of files lines) Reports Refuses e out → Ends files command e × IsText files command out
  pub memory : MayPrecede files command []
  pub read : (name : List ℕ) → IsOfSchedule t (file_of files packets) packets lines name → MayPrecedeRead files command name []

module _ (files : Files) (command : Command) (packets lines : Bor (List ℕ)) (t : Tables) (Reports : List ℕ → Type 0) (Refuses : ℕ → Type 0)
    (so : EndsSo files command packets.now lines.now t Reports Refuses) (old new : Option (List ℕ)) where
  abbrev file : List ℕ
  file = file_of files packets.now

  abbrev text : List ℕ
  text = file_of files lines.now

  ended_so : (e : Ending) (out : List ℕ) → EndsBySchedule t file text Reports Refuses e out → Appends old new out → Ends files command e × ((text : List ℕ) × IsText files command text × Appends old new text)
  ended_so e out h m = let x = so.ends e out h in (x.0, (out, x.1, m))

  memory_short : new ≡ old → Meets files command (Err NoMemory) old new
  memory_short same = none_of (MayPrecede files command) old new so.memory same

  stops_at : (fault : TraceFault) (e : Ending) → new ≡ old → (spelled_for t file).stop ≡ refused fault → IsRunEnding (Err fault) e → Ends files command e × ((text : List ℕ) × IsText files command text × Appends old new text)
  stops_at fault e same stop is = ended_so e [] (inr (refl, inl (fault, stop, is))) (nothing_out old new same)

  pub meets-scheduled : (r : Result (Unit {0}) ScheduleFault) → WritesScheduleBy Reports Refuses t file text r old new → Meets files command (ending_of_schedule packets lines r) old new
  meets-scheduled (Ok u) m = ended_so (Ok tt) m.0 (inl (refl, m.1)) m.2
  meets-scheduled (Err order.Write) m = inr (m.0, (so.ends (Ok tt) m.0 (inl (refl, m.1))).1, m.2)
  meets-scheduled (Err order.NoMemory) m = memory_short m
  meets-scheduled (Err (order.Packets run.Read)) m = none_of (MayPrecedeRead files command packets.now) old new (so.read packets.now (inl refl)) m.0
  meets-scheduled (Err (order.Packets run.NoMemory)) m = memory_short m.0
  meets-scheduled (Err (order.Packets (run.Limit which count))) m = stops_at (run.Limit which count) (Err (Limit which count)) m.0 m.1 refl
  meets-scheduled (Err (order.Packets (run.Packets line))) m = stops_at (run.Packets line) (Err (Packets line)) m.0 m.1 refl
  meets-scheduled (Err (order.Packets fault)) m = absurd m.1
  meets-scheduled (Err order.Read) m = none_of (MayPrecedeRead files command lines.now) old new (so.read lines.now (inr (refl, m.1))) m.0
  meets-scheduled (Err order.TooLong) m = ended_so (Err (Limit Bytes 67108865)) [] (inr (refl, inr (inl (m.1, m.2, refl)))) (nothing_out old new m.0)
  meets-scheduled (Err (order.Line line)) m = ended_so (Err (Schedule line)) [] (inr (refl, inr (inr (line, m.1, refl)))) (nothing_out old new m.0)

-- why a device's refusal of a schedule's run is told
module _ (shelf_before shelf_now : List ℕ → ℕ) (out_before out_now : ℕ) (packets lines : Bor (List ℕ)) where
  pub because : (fault : ScheduleFault) → (IsErrOf {T = Unit {0}} (Err fault) (order.Packets run.Write) → ⊥)
      → (IsErrOf {T = Unit {0}} (Err fault) (order.Packets run.Read) → Rose (shelf_before packets.now) (shelf_now packets.now))
      → (IsErrOf {T = Unit {0}} (Err fault) order.Read → Rose (shelf_before lines.now) (shelf_now lines.now))
      → (IsErrOf {T = Unit {0}} (Err fault) order.Write → Rose out_before out_now)
      → HasCauses shelf_before shelf_now out_before out_now (Err (refusal_of_schedule packets lines fault))
  because (order.Packets run.Read) never of_packets of_lines of_out = record { read = λ name is. subst (λ n. Rose (shelf_before n) (shelf_now n)) is (of_packets refl); write = λ e. absurd (cc) }
  because (order.Packets run.Write) never of_packets of_lines of_out = absurd (never refl)
  because order.Read never of_packets of_lines of_out = record { read = λ name is. subst (λ n. Rose (shelf_before n) (shelf_now n)) is (of_lines refl); write = λ e. absurd (cc) }
  because order.Write never of_packets of_lines of_out = record { read = λ name is. absurd is; write = λ e. of_out refl }
  because fault never of_packets of_lines of_out = record { read = λ name is. absurd is; write = λ e. absurd (cc) }
