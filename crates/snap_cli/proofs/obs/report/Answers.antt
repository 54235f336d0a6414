use Rattle.snap_words.specs.Commands.{obs}
use Rattle.snap_cli.proofs.ObsLemmas.{meets-run, obs-refuses}
use Rattle.snap_cli.proofs.RefusedBy.{meets-refused}
use Rattle.std.proofs.Common.{[], ◌∷◌, refl}
use Rattle.snap_cli.proofs.StatusLemmas.{ends-more, ends-refused}
use Rattle.std.proofs.lemmas.Option.{IfSome_then}
use Rattle.snap_cli.proofs.Relayed.{IfSome_both, passed}
use Rattle.snap_cli.proofs.obs.report.Goals as goal

pub returns-clause-meets : goal.returns-clause-meets
returns-clause-meets g c =
    IfSome_both (g.S.Shelf.files c.args.shelf.now) _ c.in_ok-program.ensures.devices.files c.in_ok-program.ensures.gives c.report_of.ensures.meets (λ files read run.
    meets-run files c.args.program.now c.args.packets.now c.in_ok-program.program (g.O.Sink.taken c.args.out.now) (g.O.Sink.taken c.report_of.new.out) c.report_of.result read run)

pub returns-in_err-program-clause-meets : goal.returns-in_err-program-clause-meets
returns-in_err-program-clause-meets g c =
    rw (passed c.from_residual.ensures.1) (let p = c.args.program.now in let q = c.args.packets.now in
    IfSome_then (g.S.Shelf.files c.args.shelf.now) c.in_err-program.ensures.gives (λ files no. meets-refused files (obs p q) p (g.O.Sink.taken c.args.out.now) c.in_err-program.field-0.0 (obs-refuses p q files) no))

pub returns-clause-statuses : goal.returns-clause-statuses
returns-clause-statuses g c = ends-more (2 ∷ 6 ∷ 12 ∷ 15 ∷ []) (2 ∷ 4 ∷ 5 ∷ 6 ∷ 12 ∷ 15 ∷ []) c.report_of.result refl c.report_of.ensures.statuses

pub returns-in_err-program-clause-statuses : goal.returns-in_err-program-clause-statuses
returns-in_err-program-clause-statuses g c = rw (passed c.from_residual.ensures.1) (ends-refused (2 ∷ 4 ∷ 5 ∷ 6 ∷ []) (2 ∷ 4 ∷ 5 ∷ 6 ∷ 12 ∷ 15 ∷ []) c.in_err-program.field-0.0 refl c.in_err-program.ensures.statuses)
