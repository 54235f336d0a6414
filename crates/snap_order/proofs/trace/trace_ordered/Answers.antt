use Rattle.snap_io.specs.Files.{file_of}
use Rattle.snap_report.proofs.StepLemmas.{where_told}
use Rattle.snap_order.proofs.Written.{trace_in_order}
use Rattle.snap_order.proofs.trace.trace_ordered.Goals as goal

pub returns-clause-report : goal.returns-clause-report
returns-clause-report g c =
    let known = c.tables-known.ensures in
    where_told (g.S.Shelf.files c.args.shelf.now) _ _ (λ files written.
    trace_in_order c.args.tables known.form known.valid c.requires.version c.args.hops (file_of files c.args.packets.now) _ (g.K.Sink.taken c.args.sink.now) (g.K.Sink.taken c.trace_by.new.sink) written)
    c.trace_by.ensures.report
