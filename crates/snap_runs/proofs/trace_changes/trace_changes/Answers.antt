use Rattle.std.proofs.Common.{subst, sym}
use Rattle.std.proofs.lemmas.Result.{err_from_is_err_and}
use Rattle.snap_core.specs.Arrays.{zero_arrays}
use Rattle.snap_io.specs.Files.{file_of}
use Rattle.snap_rows.specs.Network.{start as start_of}
use Rattle.snap_net.specs.Shown.{Represents}
use Rattle.snap_report.proofs.StepLemmas.{where_told, whatever_told}
use Rattle.snap_runs.specs.ChangedFiles.{WritesChanged}
use Rattle.snap_runs.specs.Moving.{left_in}
use Rattle.snap_runs.proofs.ChangesComing.{behind-first, changed-of-run, none-written}
use Rattle.snap_runs.proofs.trace_changes.trace_changes.Goals as goal

pub returns-in_err-mover-clause-report : goal.returns-in_err-mover-clause-report
returns-in_err-mover-clause-report g c =
    let out = err_from_is_err_and c.from_residual.result c.from_residual.ensures.1 in
    whatever_told (g.S.Shelf.files c.args.shelf.now) _ (λ files.
    rw out.1 (rw out.2 (none-written c.args.first c.args.later.items c.args.hops (file_of files c.args.packets.now) (g.K.Sink.taken c.args.sink.now))))

pub returns-in_err-make_due-clause-report : goal.returns-in_err-make_due-clause-report
returns-in_err-make_due-clause-report g c =
    let out = err_from_is_err_and c.from_residual-in_err-make_due.result c.from_residual-in_err-make_due.ensures.1 in
    whatever_told (g.S.Shelf.files c.args.shelf.now) _ (λ files.
    rw out.1 (rw out.2 (none-written c.args.first c.args.later.items c.args.hops (file_of files c.args.packets.now) (g.K.Sink.taken c.args.sink.now))))

pub returns-clause-report : goal.returns-clause-report
returns-clause-report g c =
    let hops = c.args.hops in
    let m = c.in_ok-mover.mover in
    let start = g.K.Sink.taken c.args.sink.now in
    let ended = c.run_over.result in
    let now = g.K.Sink.taken c.run_over.new.sink in
    where_told (g.S.Shelf.files c.args.shelf.now) _ _ (λ files runs.
    let file = file_of files c.args.packets.now in
    let stood = behind-first m c.make_due.new.self (subst (λ t. Represents m.tracer.net (start_of t zero_arrays)) (sym c.in_ok-mover.ensures.tables) c.in_ok-mover.ensures.start) c.in_ok-mover.ensures.frames c.in_ok-make_due.ensures.stands c.make_due.ensures.hops c.make_due.ensures.frames in
    subst (λ h. WritesChanged c.args.first c.args.later.items h file ended start now) c.in_ok-mover.ensures.hops
    (subst (λ ls. WritesChanged c.args.first ls m.tracer.hops file ended start now) c.in_ok-mover.ensures.later
    (subst (λ t. WritesChanged t (left_in m) m.tracer.hops file ended start now) c.in_ok-mover.ensures.tables (changed-of-run m file ended c.run_over.ensures.defined start now (runs m stood c.in_ok-make_due.ensures.fields)))))
    c.run_over.ensures.report
