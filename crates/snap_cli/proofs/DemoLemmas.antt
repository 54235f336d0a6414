-- What `demo` did, from what its steps did.
use Rattle.std.proofs.Common.{ℕ, List, [], Option, Ok, Err, refl, inr}
use Rattle.snap_words.specs.Commands.{demo}
use Rattle.snap_cli.specs.Demo.{MeetsSummary}
use Rattle.snap_cli.proofs.Shared.{Ending, Files, Meets, NoMemory, Write}

pub meets-summary : (files : Files) (switches : ℕ) (old new : Option (List ℕ)) (e : Ending) → MeetsSummary switches e old new → Meets files (demo switches) e old new
meets-summary files switches old new (Ok u) m = (refl, (m.0, m.1, m.2))
meets-summary files switches old new (Err Write) m = inr (m.0, m.1, m.2)
meets-summary files switches old new (Err NoMemory) m = ([], refl, (0, m))
meets-summary files switches old new (Err e) m = absurd m
