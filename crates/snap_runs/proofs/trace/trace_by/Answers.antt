use Rattle.std.proofs.Common.{Err, refl, subst, sym}
use Rattle.std.proofs.lemmas.Result.{err_from_is_err_and}
use Rattle.snap_io.specs.Files.{file_of}
use Rattle.snap_runs.specs.Plain.{WritesTraceBy}
use Rattle.snap_report.proofs.StepLemmas.{where_told, whatever_told}
use Rattle.snap_core.specs.Arrays.{zero_arrays}
use Rattle.snap_rows.specs.Network.{start as start_of}
use Rattle.snap_net.specs.Shown.{Represents}
use Rattle.snap_runs.proofs.Closing.{trace-of-run, writes-nothing}
use Rattle.snap_runs.proofs.Coming.{stands-first}
use Rattle.snap_runs.proofs.trace.trace_by.Goals as goal

pub returns-in_err-tracer-clause-report : goal.returns-in_err-tracer-clause-report
returns-in_err-tracer-clause-report g c =
    let out = err_from_is_err_and c.from_residual.result c.from_residual.ensures.1 in
    whatever_told (g.S.Shelf.files c.args.shelf.now) _ (λ files.
    let file = file_of files c.args.packets.now in
    let start = g.K.Sink.taken c.args.sink.now in
    subst (λ r. WritesTraceBy c.args.frames c.args.tables c.args.hops file r start start) (sym out.1)
    (subst (λ e. WritesTraceBy c.args.frames c.args.tables c.args.hops file (Err e) start start) (sym out.2) (writes-nothing c.args.frames c.args.tables c.args.hops file start)))

pub returns-clause-report : goal.returns-clause-report
returns-clause-report g c =
    let v = c.in_ok-tracer.tracer in
    let start = g.K.Sink.taken c.args.sink.now in
    let ended = c.run_over.result in
    let now = g.K.Sink.taken c.run_over.new.sink in
    where_told (g.S.Shelf.files c.args.shelf.now) _ _ (λ files runs.
    let file = file_of files c.args.packets.now in
    let stood = stands-first v (subst (λ t. Represents v.net (start_of t zero_arrays)) (sym c.in_ok-tracer.ensures.tables) c.in_ok-tracer.ensures.start) in
    subst (λ h. WritesTraceBy c.args.frames c.args.tables h file ended start now) c.in_ok-tracer.ensures.hops
    (subst (λ f. WritesTraceBy f c.args.tables v.hops file ended start now) c.in_ok-tracer.ensures.frames
    (subst (λ t. WritesTraceBy v.frames t v.hops file ended start now) c.in_ok-tracer.ensures.tables (trace-of-run v file ended c.run_over.ensures.defined start now (runs v stood refl)))))
    c.run_over.ensures.report
