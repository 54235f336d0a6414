-- What `check` did, from what its steps did.
use Rattle.std.proofs.Common.{ℕ, List, [], Option, Ok, Err, refl, inl, inr, codes}
use Rattle.snap_words.specs.Commands.{check}
use Rattle.snap_cli.specs.Check.{MeetsCheck}
use Rattle.snap_cli.proofs.Shared.{Ending, file_of, Files, Meets, NoMemory, Program, ProgramOf, Race, Write}
use Rattle.snap_cli.proofs.RefusedBy.{Refuses}

pub check-refuses : (p : List ℕ) (files : Files) → Refuses files (check p) p
check-refuses p files = record { ends = λ e h. inl (e, h, refl); text = λ e h. inl (e, h, refl); read = (refl, refl); memory = refl }

-- the program was read, and this is what was done for it
pub meets-check : (files : Files) (p : List ℕ) (program : Program) (old new : Option (List ℕ)) (e : Ending) → ProgramOf (file_of files p) (Ok program)
    → MeetsCheck program e old new → Meets files (check p) e old new
meets-check files p program old new (Ok u) h m = (inr (program, h, m.0), (codes "ok\n", inr (program, h, inl (m.0, refl)), m.1))
meets-check files p program old new (Err Write) h m = inr (codes "ok\n", inr (program, h, inl (m.0, refl)), m.1)
meets-check files p program old new (Err NoMemory) h m = ([], refl, (0, m))
meets-check files p program old new (Err (Race text)) h m =
    let told = m.0 in (inr (program, h, told), ([], inr (program, h, inr ((told.0, told.1, told.2), refl)), m.1))
meets-check files p program old new (Err e) h m = absurd m
