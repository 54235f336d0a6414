use Rattle.snap_words.specs.Said.{shown_order}
use Rattle.snap_cli.proofs.TraceLemmas.{meets-order, meets-refused}
use Rattle.std.proofs.Common.{[], ◌∷◌, refl}
use Rattle.snap_cli.specs.Statuses.{EndsWith, statuses_of_trace}
use Rattle.snap_cli.proofs.StatusLemmas.{ends-refused}
use Rattle.std.proofs.lemmas.Option.{IfSome_then}
use Rattle.snap_cli.proofs.Relayed.{IfSome_both, passed, relayed}
use Rattle.snap_cli.proofs.trace.report.Goals as goal

pub returns-clause-meets : goal.returns-clause-meets
returns-clause-meets g c =
    IfSome_both (g.S.Shelf.files c.args.shelf.now) _ c.in_ok-tables.ensures.devices.files c.in_ok-tables.ensures.gives c.report_in_order.ensures.meets (λ files read run.
    meets-order files c.args.tables.now c.args.packets c.args.hops c.args.order c.in_ok-tables.tables read (g.O.Sink.taken c.args.out.now) (g.O.Sink.taken c.report_in_order.new.out) c.report_in_order.result run)

pub returns-in_err-tables-clause-meets : goal.returns-in_err-tables-clause-meets
returns-in_err-tables-clause-meets g c =
    rw (passed c.from_residual.ensures.1) (IfSome_then (g.S.Shelf.files c.args.shelf.now) c.in_err-tables.ensures.gives (λ files no. meets-refused files c.args.tables.now c.args.packets.now c.args.hops (shown_order c.args.order) (g.O.Sink.taken c.args.out.now) c.in_err-tables.field-0.0 no))

pub returns-in_err-tables-clause-statuses : goal.returns-in_err-tables-clause-statuses
returns-in_err-tables-clause-statuses g c =
    let e = c.in_err-tables.field-0.0 in
    let statuses = statuses_of_trace (shown_order c.args.order) in
    relayed (EndsWith statuses) c.from_residual.result e c.from_residual.ensures.1 (ends-refused (2 ∷ 6 ∷ 11 ∷ []) statuses e refl c.in_err-tables.ensures.statuses)
