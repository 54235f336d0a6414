use Rattle.snap_words.specs.Commands.{check}
use Rattle.snap_cli.proofs.CheckLemmas.{check-refuses, meets-check}
use Rattle.snap_cli.proofs.RefusedBy.{meets-refused}
use Rattle.std.proofs.Common.{[], ◌∷◌, refl}
use Rattle.snap_cli.proofs.StatusLemmas.{ends-check, ends-refused}
use Rattle.std.proofs.lemmas.Option.{IfSome_then}
use Rattle.snap_cli.proofs.Relayed.{passed}
use Rattle.snap_cli.proofs.check.report.Goals as goal

pub returns-clause-meets : goal.returns-clause-meets
returns-clause-meets g c =
    IfSome_then (g.S.Shelf.files c.args.shelf.now) c.in_ok-program.ensures.gives (λ files read.
    meets-check files c.args.program.now c.in_ok-program.program (g.O.Sink.taken c.args.out.now) (g.O.Sink.taken c.answer.new.out) c.answer.result read c.answer.ensures.meets)

pub returns-in_err-program-clause-meets : goal.returns-in_err-program-clause-meets
returns-in_err-program-clause-meets g c =
    rw (passed c.from_residual.ensures.1) (let p = c.args.program.now in
    IfSome_then (g.S.Shelf.files c.args.shelf.now) c.in_err-program.ensures.gives (λ files no. meets-refused files (check p) p (g.O.Sink.taken c.args.out.now) c.in_err-program.field-0.0 (check-refuses p files) no))

pub returns-clause-statuses : goal.returns-clause-statuses
returns-clause-statuses g c = ends-check c.in_ok-program.program c.answer.result _ _ c.answer.ensures.meets

pub returns-in_err-program-clause-statuses : goal.returns-in_err-program-clause-statuses
returns-in_err-program-clause-statuses g c = rw (passed c.from_residual.ensures.1) (ends-refused (2 ∷ 4 ∷ 5 ∷ 6 ∷ []) (2 ∷ 4 ∷ 5 ∷ 6 ∷ 10 ∷ []) c.in_err-program.field-0.0 refl c.in_err-program.ensures.statuses)
