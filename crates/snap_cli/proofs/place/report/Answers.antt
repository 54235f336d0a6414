use Rattle.snap_cli.proofs.PlaceLemmas.{meets-refused}
use Rattle.std.proofs.Common.{[], ◌∷◌, inr, refl, subst}
use Rattle.std.specs.Io.KnownBytes.{Appends}
use Rattle.snap_io.specs.Sinks.{AppendsPart}
use Rattle.snap_cli.proofs.StatusLemmas.{ends-refused}
use Rattle.std.proofs.lemmas.Option.{IfSome_then}
use Rattle.snap_cli.proofs.Relayed.{passed}
use Rattle.snap_cli.proofs.place.report.Goals as goal

pub returns-in-Ok-clause-meets : goal.returns-in-Ok-clause-meets
returns-in-Ok-clause-meets g c =
    let text = c.in_ok-text.text.items in
    IfSome_then (g.S.Shelf.files c.args.shelf.now) c.in_ok-text.ensures.gives (λ files is.
    ((text, is), (text, inr is, subst (Appends (g.O.Sink.taken c.args.out.now) (g.O.Sink.taken c.write_whole.new.sink)) c.deref.ensures.value c.in-Ok.ensures.ok)))

pub returns-clause-meets : goal.returns-clause-meets
returns-clause-meets g c =
    IfSome_then (g.S.Shelf.files c.args.shelf.now) c.in_ok-text.ensures.gives (λ files is.
    inr (c.in_ok-text.text.items, inr is, subst (AppendsPart (g.O.Sink.taken c.args.out.now) (g.O.Sink.taken c.write_whole.new.sink)) c.deref.ensures.value c.in-Err.ensures.err))

pub returns-in_err-text-clause-meets : goal.returns-in_err-text-clause-meets
returns-in_err-text-clause-meets g c =
    rw (passed c.from_residual.ensures.1) (IfSome_then (g.S.Shelf.files c.args.shelf.now) c.in_err-text.ensures.gives (λ files no. meets-refused files c.args.program.now c.args.topology.now c.args.demand.now (g.O.Sink.taken c.args.out.now) c.in_err-text.field-0.0 no))

pub returns-in_err-text-clause-statuses : goal.returns-in_err-text-clause-statuses
returns-in_err-text-clause-statuses g c = rw (passed c.from_residual.ensures.1) (ends-refused (2 ∷ 4 ∷ 5 ∷ 6 ∷ 7 ∷ 8 ∷ 19 ∷ []) (2 ∷ 4 ∷ 5 ∷ 6 ∷ 7 ∷ 8 ∷ 19 ∷ []) c.in_err-text.field-0.0 refl c.in_err-text.ensures.statuses)
