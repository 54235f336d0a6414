-- What `obs` did, from what its steps did.
use Rattle.std.proofs.Common.{ℕ, List, Option, Ok, Err, refl, inl, inr}
use Rattle.snap_report.specs.declared.fault.TraceFault.TheVariants as run
use Rattle.snap_report.specs.OneSwitch.{WritesReport}
use Rattle.snap_words.specs.Commands.{obs}
use Rattle.snap_cli.specs.Obs.{EndsObs, IsObsText, MeetsRun, RunsTo}
use Rattle.snap_cli.specs.Steps.{refusal_of_run}
use Rattle.snap_cli.proofs.Shared.{Appends, Bor, Ending, file_of, Files, Meets, NoMemory, Program, ProgramOf, Read, ReadChange, TraceFault, Write}
use Rattle.snap_cli.proofs.RefusedBy.{Refuses}

pub obs-refuses : (p q : List ℕ) (files : Files) → Refuses files (obs p q) p
obs-refuses p q files = record { ends = λ e h. inl (e, h, refl); text = λ e h. inl (e, h, refl); read = inl (refl, refl); memory = inl refl }

-- the program was read, and its whole report went out
whole-run : (files : Files) (p q : List ℕ) (program : Program) (old new : Option (List ℕ)) (e : Ending) → ProgramOf (file_of files p) (Ok program)
    → (text : List ℕ) × RunsTo program (file_of files q) e text × Appends old new text → EndsObs files p q e × ((text : List ℕ) × IsObsText files p q text × Appends old new text)
whole-run files p q program old new e h m =
    let run = m.1 in
    (inr (program, h, (m.0, run)), (m.0, inr (program, h, (run.0, run.1)), m.2))

-- the program was read, and this is what its run did
pub meets-run : (files : Files) (p q : List ℕ) (program : Program) (old new : Option (List ℕ)) (e : Ending) → ProgramOf (file_of files p) (Ok program)
    → MeetsRun program q (file_of files q) e old new → Meets files (obs p q) e old new
meets-run files p q program old new (Ok u) h m = whole-run files p q program old new (Ok u) h m
meets-run files p q program old new (Err (Read name)) h m = (m.1.0, inr (m.0, (program, h, m.1.1)), m.1.2)
meets-run files p q program old new (Err (ReadChange name)) h m = absurd m
meets-run files p q program old new (Err NoMemory) h m = (m.0, inr (program, h, m.1), m.2)
meets-run files p q program old new (Err Write) h (inl m) = inl (m.0, inr (program, h, m.1), m.2)
meets-run files p q program old new (Err Write) h (inr m) = inr (m.0, inr (program, h, m.1), m.2)
meets-run files p q program old new (Err e) h m = whole-run files p q program old new (Err e) h m

-- the run of a program, as the command tells it
pub run-ok : (program : Program) (packets file : List ℕ) (old new : Option (List ℕ)) → WritesReport program file (Ok tt) old new → MeetsRun program packets file (Ok tt) old new
run-ok program packets file old new m = (m.0, (Ok tt, m.1, refl), m.2)

pub run-err : (program : Program) (packets : Bor (List ℕ)) (file : List ℕ) (old new : Option (List ℕ)) (fault : TraceFault) → WritesReport program file (Err fault) old new
    → MeetsRun program packets.now file (Err (refusal_of_run packets fault)) old new
run-err program packets file old new run.Read m = (refl, m)
run-err program packets file old new run.Write m = m
run-err program packets file old new run.NoMemory m = m
run-err program packets file old new (run.Limit which count) m = (m.0, (Err (run.Limit which count), m.1, refl), m.2)
run-err program packets file old new (run.Packets line) m = (m.0, (Err (run.Packets line), m.1, refl), m.2)
run-err program packets file old new (run.Undefined packet) m = (m.0, (Err (run.Undefined packet), m.1, refl), m.2)
