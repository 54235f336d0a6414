use Rattle.std.proofs.Common.{◌≡◌, ◌⊎◌, ℕ}
use Rattle.snap_core.specs.declared.program.Program.{Program}
use Rattle.snap_equal.specs.Same.{MeanSame}
use Rattle.snap_words.specs.Commands.{equal}
use Rattle.snap_cli.specs.Equal.{Differs}
use Rattle.snap_cli.proofs.DueStatus.{due-status}
use Rattle.snap_cli.proofs.EqualOnce.{equal_status}
use Rattle.snap_cli.proofs.laws.equals_exactly.Goals as goal

abbrev IsCompared : Program → Program → ℕ → Type 0
IsCompared p q status = ((status ≡ 0) × MeanSame p q) ⊎ ((status ≡ 18) × Differs p q)

pub returns : goal.returns
returns c = λ words files left right p q status shelf_before shelf_now out_before out_now out_old out_new err_before err_now err_old err_new is l r race_free a.
    due-status (IsCompared p q) files (equal left right) (equal_status c.spells_one_program.ensures files left right p q l r race_free) status out_old out_new err_before err_now err_old err_new
    (c.answers_exactly.ensures words files (equal left right) status shelf_before shelf_now out_before out_now out_old out_new err_before err_now err_old err_new is a)
