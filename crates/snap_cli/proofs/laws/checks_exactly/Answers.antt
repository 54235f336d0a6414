use Rattle.std.proofs.Common.{◌≡◌, ◌⊎◌, ℕ, List, Ok, Err, inl, inr}
use Rattle.snap_core.specs.declared.program.Program.{Program}
use Rattle.snap_io.specs.Files.{Files, file_of}
use Rattle.snap_words.specs.Commands.{check}
use Rattle.snap_cli.specs.Check.{EndsCheck, NeverRaces, Races}
use Rattle.snap_cli.specs.Laws.{SpellsOneProgram}
use Rattle.snap_cli.specs.ProgramOf.{ProgramOf}
use Rattle.snap_cli.specs.Refusals.{Ending, status_of}
use Rattle.snap_cli.proofs.CheckOnce.{judged_status}
use Rattle.snap_cli.proofs.DueStatus.{due-status}
use Rattle.snap_cli.proofs.laws.checks_exactly.Goals as goal

abbrev IsJudged : Program → ℕ → Type 0
IsJudged p status = ((status ≡ 0) × NeverRaces p) ⊎ ((status ≡ 10) × Races p)

judged : SpellsOneProgram → (files : Files) (program : List ℕ) (p : Program) → ProgramOf (file_of files program) (Ok p) → (e : Ending) → EndsCheck files program e → IsJudged p (status_of e)
judged spells files program p read e (inl h) = absurd (spells (file_of files program) (Err h.0) (Ok p) h.1 read)
judged spells files program p read e (inr h) = judged_status h.0 p (spells (file_of files program) (Ok h.0) (Ok p) h.1 read) e h.2

pub returns : goal.returns
returns c = λ words files program p status shelf_before shelf_now out_before out_now out_old out_new err_before err_now err_old err_new is read a.
    due-status (IsJudged p) files (check program) (judged c.spells_one_program.ensures files program p read) status out_old out_new err_before err_now err_old err_new
    (c.answers_exactly.ensures words files (check program) status shelf_before shelf_now out_before out_now out_old out_new err_before err_now err_old err_new is a)
