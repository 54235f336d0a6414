-- What a run by rounds did, as the command tells it.
use Rattle.std.proofs.Common.{◌≡◌, ℕ, Bool, List, [], Option, Ok, Err, refl, sym, subst, inl, inr}
use Rattle.snap_report.specs.declared.fault.TraceFault.TheVariants as run
use Rattle.snap_order.specs.Rounds.{WritesRounds}
use Rattle.snap_cli.specs.RoundsSteps.{MeetsByRounds}
use Rattle.snap_cli.proofs.Shared.{Appends, Bor, Command, Ending, ending_of_run, Ends, file_of, Files, IsRunEnding, IsText, Limit, MayPrecede, MayPrecedeRead, Meets, Packets, refused, rounds, RoundsTo, RunEnding, spelled_for, Tables, TablesOf, trace, TraceFault, VersionOne}
use Rattle.snap_cli.proofs.ScheduleLemmas.{none_of, nothing_out}

module _ (files : Files) (name : List ℕ) (packets : Bor (List ℕ)) (hops : Bool) (workers : ℕ) (t : Tables) (spelled : TablesOf (file_of files name) (Ok t)) (old new : Option (List ℕ)) where
  abbrev file : List ℕ
  file = file_of files packets.now

  abbrev command : Command
  command = trace name packets.now hops (rounds workers)

  -- tables of version 1
  version_one : t.version ≡ 1 → new ≡ old → Meets files command (Err VersionOne) old new
  version_one one same = (inr (t, spelled, ([], inl (one, refl, refl))), ([], inr (t, spelled, (Err VersionOne, inl (one, refl, refl))), nothing_out old new same))

  module _ (two : t.version ≡ 2) where
    ended_so : (e : Ending) (text : List ℕ) → RoundsTo t hops file e text → Appends old new text → Ends files command e × ((text : List ℕ) × IsText files command text × Appends old new text)
    ended_so e text h m = (inr (t, spelled, (text, inr (two, h))), (text, inr (t, spelled, (e, inr (two, h))), m))

    stops_at : (fault : TraceFault) (e : Ending) → new ≡ old → (spelled_for t file).stop ≡ refused fault → IsRunEnding (Err fault) e → Ends files command e × ((text : List ℕ) × IsText files command text × Appends old new text)
    stops_at fault e same stop is = ended_so e [] (inr (refl, (fault, stop, is))) (nothing_out old new same)

    meets-rounds : (r : RunEnding) → WritesRounds t hops file r old new → Meets files command (ending_of_run packets r) old new
    meets-rounds (Ok u) m = ended_so (Ok tt) m.0 (inl (refl, m.1)) m.2
    meets-rounds (Err run.Read) m = none_of (MayPrecedeRead files command packets.now) old new (inr (t, spelled, (two, refl, refl))) m.0
    meets-rounds (Err run.NoMemory) m = none_of (MayPrecede files command) old new (inl refl) m.0
    meets-rounds (Err run.Write) m = inr (m.0, inr (t, spelled, (Ok tt, inr (two, inl (refl, m.1)))), m.2)
    meets-rounds (Err (run.Limit which count)) m = stops_at (run.Limit which count) (Err (Limit which count)) m.0 m.1 refl
    meets-rounds (Err (run.Packets line)) m = stops_at (run.Packets line) (Err (Packets line)) m.0 m.1 refl
    meets-rounds (Err (run.Undefined packet)) m = absurd m.1

  pub meets-by_rounds : (e : Ending) → MeetsByRounds files t hops packets e old new → Meets files command e old new
  meets-by_rounds e (inl m) = subst (λ x. Meets files command x old new) (sym m.1) (version_one m.0 m.2)
  meets-by_rounds e (inr m) = subst (λ x. Meets files command x old new) (sym m.1.2) (meets-rounds m.0 m.1.0 m.1.1)
