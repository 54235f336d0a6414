use Rattle.std.proofs.Common.{Err, subst, sym}
use Rattle.std.specs.Io.KnownBytes.{Appends}
use Rattle.std.proofs.lemmas.Result.{err_from_is_err_and}
use Rattle.snap_io.specs.Files.{file_of}
use Rattle.snap_io.specs.Sinks.{AppendsPart}
use Rattle.snap_report.proofs.StepLemmas.{where_told}
use Rattle.snap_order.specs.Rounds.{WritesRounds}
use Rattle.snap_order.proofs.RoundsWritten.{rounds_part, rounds_written}
use Rattle.snap_order.proofs.workers.trace_workers.Goals as goal

pub returns-in_err-write_whole-clause-report : goal.returns-in_err-write_whole-clause-report
returns-in_err-write_whole-clause-report g c =
    let t = c.args.tables in
    let hops = c.args.hops in
    let rs = c.in_ok-ready.ready.items in
    let text = c.in_ok-report.report.items in
    let start = g.K.Sink.taken c.args.sink.now in
    let now = g.K.Sink.taken c.write_whole.new.sink in
    let part = subst (λ x. AppendsPart start now x) c.deref.ensures.value c.in_err-write_whole.ensures.err in
    let out = err_from_is_err_and c.from_residual-in_err-write_whole.result c.from_residual-in_err-write_whole.ensures.1 in
    where_told (g.S.Shelf.files c.args.shelf.now) _ _ (λ files all.
    let file = file_of files c.args.packets.now in
    subst (λ r. WritesRounds t hops file r start now) (sym out.1)
    (subst (λ e. WritesRounds t hops file (Err e) start now) (sym out.2) (rounds_part t hops file rs all text c.in_ok-report.ensures start now part)))
    c.in_ok-ready.ensures.whole

pub returns-clause-report : goal.returns-clause-report
returns-clause-report g c =
    let t = c.args.tables in
    let hops = c.args.hops in
    let rs = c.in_ok-ready.ready.items in
    let text = c.in_ok-report.report.items in
    let start = g.K.Sink.taken c.args.sink.now in
    let now = g.K.Sink.taken c.write_whole.new.sink in
    let out = subst (λ x. Appends start now x) c.deref.ensures.value c.in_ok-write_whole.ensures.ok in
    where_told (g.S.Shelf.files c.args.shelf.now) _ _ (λ files all. rounds_written t hops (file_of files c.args.packets.now) rs all text c.in_ok-report.ensures start now out) c.in_ok-ready.ensures.whole
