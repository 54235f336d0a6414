-- What `deps` did, from what its steps did.
use Rattle.std.proofs.Common.{ℕ, List, [], Option, Ok, Err, refl, inl, inr}
use Rattle.snap_words.specs.Commands.{deps}
use Rattle.snap_cli.specs.Deps.{MeetsText}
use Rattle.snap_cli.proofs.Shared.{Ending, file_of, Files, Meets, NoMemory, Program, ProgramOf, Write}
use Rattle.snap_cli.proofs.RefusedBy.{Refuses}

pub deps-refuses : (p : List ℕ) (files : Files) → Refuses files (deps p) p
deps-refuses p files = record { ends = λ e h. inl (e, h, refl); text = λ e h. inl (e, h, refl); read = (refl, refl); memory = refl }

-- the program was read, and this is what was done for it
pub meets-text : (files : Files) (p : List ℕ) (program : Program) (old new : Option (List ℕ)) (e : Ending) → ProgramOf (file_of files p) (Ok program)
    → MeetsText program e old new → Meets files (deps p) e old new
meets-text files p program old new (Ok u) h m = (inr (program, h, refl), (m.0, inr (program, h, m.1), m.2))
meets-text files p program old new (Err Write) h m = inr (m.0, inr (program, h, m.1), m.2)
meets-text files p program old new (Err NoMemory) h m = ([], refl, (0, m))
meets-text files p program old new (Err e) h m = absurd m
