use Rattle.std.proofs.Common.{[], ◌∷◌, refl}
use Rattle.snap_cli.proofs.StatusLemmas.{of-program, refuses-more}
use Rattle.snap_cli.proofs.Relayed.{passed}
use Rattle.snap_cli.proofs.program.load_program.Goals as goal

pub returns-clause-statuses : goal.returns-clause-statuses
returns-clause-statuses g c = of-program _ c.read_program.result c.read_program.ensures.gives

pub returns-in_err-text-clause-statuses : goal.returns-in_err-text-clause-statuses
returns-in_err-text-clause-statuses g c = rw (passed c.from_residual.ensures.1) (refuses-more (2 ∷ 6 ∷ []) (2 ∷ 4 ∷ 5 ∷ 6 ∷ []) c.in_err-text.field-0.0 refl c.in_err-text.ensures.statuses)
