use Rattle.snap_cli.proofs.TraceLemmas.{loads-none, loads-read}
use Rattle.std.proofs.Common.{[], ◌∷◌, refl, subst, ◌∙◌}
use Rattle.snap_io.specs.Files.{file_of}
use Rattle.snap_cli.specs.TraceSteps.{ReadsTables}
use Rattle.snap_cli.proofs.StatusLemmas.{of-tables, refuses-more}
use Rattle.std.proofs.lemmas.Option.{IfSome_then}
use Rattle.snap_cli.proofs.Relayed.{passed}
use Rattle.snap_cli.proofs.tables.load_tables.Goals as goal

pub returns-clause-gives : goal.returns-clause-gives
returns-clause-gives g c =
    let name = c.args.name.now in
    IfSome_then (g.S.Shelf.files c.args.shelf.now) c.in_ok-text.ensures.gives (λ files text.
    loads-read name (file_of files name) c.read_tables.result text.1 (subst (λ x. ReadsTables x c.read_tables.result) (c.deref.ensures.value ∙ text.0) c.read_tables.ensures.reads))

pub returns-in_err-text-clause-gives : goal.returns-in_err-text-clause-gives
returns-in_err-text-clause-gives g c =
    rw (passed c.from_residual.ensures.1) (let name = c.args.name.now in IfSome_then (g.S.Shelf.files c.args.shelf.now) c.in_err-text.ensures.gives (λ files no. loads-none name (file_of files name) c.in_err-text.field-0.0 no))

pub returns-clause-statuses : goal.returns-clause-statuses
returns-clause-statuses g c = of-tables c.deref.result.now c.read_tables.result c.read_tables.ensures.reads

pub returns-in_err-text-clause-statuses : goal.returns-in_err-text-clause-statuses
returns-in_err-text-clause-statuses g c = rw (passed c.from_residual.ensures.1) (refuses-more (2 ∷ 6 ∷ []) (2 ∷ 6 ∷ 11 ∷ []) c.in_err-text.field-0.0 refl c.in_err-text.ensures.statuses)
