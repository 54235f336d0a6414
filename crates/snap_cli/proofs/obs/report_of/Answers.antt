use Rattle.snap_cli.proofs.ObsLemmas.{run-err, run-ok}
use Rattle.std.proofs.Common.{[], ◌∷◌, Err, sym, subst}
use Rattle.snap_cli.specs.Statuses.{EndsWith}
use Rattle.snap_cli.proofs.StatusLemmas.{of-run}
use Rattle.snap_io.specs.Files.{file_of}
use Rattle.snap_cli.specs.Obs.{MeetsRun}
use Rattle.std.proofs.lemmas.Option.{IfSome_then}
use Rattle.snap_cli.proofs.obs.report_of.Goals as goal

pub returns-in-Ok-clause-meets : goal.returns-in-Ok-clause-meets
returns-in-Ok-clause-meets g c =
    IfSome_then (g.S.Shelf.files c.args.shelf.now) c.in-Ok.ensures.report (λ files run. run-ok c.args.program.now c.args.packets.now (file_of files c.args.packets.now) (g.O.Sink.taken c.args.out.now) (g.O.Sink.taken c.one_switch.new.sink) run)

pub returns-in-Err-clause-meets : goal.returns-in-Err-clause-meets
returns-in-Err-clause-meets g c =
    let q = c.args.packets.now in
    let old = g.O.Sink.taken c.args.out.now in let new = g.O.Sink.taken c.one_switch.new.sink in
    IfSome_then (g.S.Shelf.files c.args.shelf.now) c.in-Err.ensures.report (λ files run.
    subst (λ e. MeetsRun c.args.program.now q (file_of files q) (Err e) old new) (sym c.refusal_of_run.ensures) (run-err c.args.program.now c.args.packets (file_of files q) old new c.in-Err.fault run))

pub returns-in-Err-clause-statuses : goal.returns-in-Err-clause-statuses
returns-in-Err-clause-statuses g c = subst (λ e. EndsWith (2 ∷ 6 ∷ 12 ∷ 15 ∷ []) (Err e)) (sym c.refusal_of_run.ensures) (of-run c.args.packets c.in-Err.fault)
