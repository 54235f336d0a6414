use Rattle.snap_cli.proofs.CompileLemmas.{meets-refused, meets-written}
use Rattle.std.proofs.Common.{[], ◌∷◌, refl}
use Rattle.snap_tables.specs.Text.{text as tables_text}
use Rattle.snap_cli.proofs.StatusLemmas.{ends-refused, ends-written}
use Rattle.std.proofs.lemmas.Option.{IfSome_then}
use Rattle.snap_cli.proofs.Relayed.{passed}
use Rattle.snap_cli.proofs.compile.report.Goals as goal

pub returns-clause-meets : goal.returns-clause-meets
returns-clause-meets g c =
    IfSome_then (g.S.Shelf.files c.args.shelf.now) c.in_ok-tables.ensures.gives (λ files are.
    meets-written files c.args.program.now c.args.topology.now c.args.placement.now c.args.on_demand (g.O.Sink.taken c.args.out.now) (g.O.Sink.taken c.write_tables-written.new.out) c.in_ok-tables.tables are c.write_tables-written.ensures.back c.write_tables-written.result
    c.write_tables-written.ensures.writes)

pub returns-in_err-tables-clause-meets : goal.returns-in_err-tables-clause-meets
returns-in_err-tables-clause-meets g c =
    rw (passed c.from_residual.ensures.1) (IfSome_then (g.S.Shelf.files c.args.shelf.now) c.in_err-tables.ensures.gives (λ files no.
    meets-refused files c.args.program.now c.args.topology.now c.args.placement.now c.args.on_demand (g.O.Sink.taken c.args.out.now) c.in_err-tables.field-0.0 no))

pub returns-clause-statuses : goal.returns-clause-statuses
returns-clause-statuses g c = ends-written (tables_text c.in_ok-tables.tables) (2 ∷ 4 ∷ 5 ∷ 6 ∷ 7 ∷ 8 ∷ 9 ∷ 10 ∷ []) c.write_tables-written.result _ _ c.write_tables-written.ensures.writes

pub returns-in_err-tables-clause-statuses : goal.returns-in_err-tables-clause-statuses
returns-in_err-tables-clause-statuses g c = rw (passed c.from_residual.ensures.1) (ends-refused (2 ∷ 4 ∷ 5 ∷ 6 ∷ 7 ∷ 8 ∷ 9 ∷ 10 ∷ []) (2 ∷ 4 ∷ 5 ∷ 6 ∷ 7 ∷ 8 ∷ 9 ∷ 10 ∷ []) c.in_err-tables.field-0.0 refl c.in_err-tables.ensures.statuses)
