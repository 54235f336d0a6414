use Rattle.snap_cli.proofs.RoutesLemmas.{meets-refused, meets-topology}
use Rattle.std.proofs.Common.{[], ◌∷◌, refl}
use Rattle.snap_cli.proofs.StatusLemmas.{ends-refused, ends-routes}
use Rattle.std.proofs.lemmas.Option.{IfSome_then}
use Rattle.snap_cli.proofs.Relayed.{passed}
use Rattle.snap_cli.proofs.routes.report.Goals as goal

pub returns-clause-meets : goal.returns-clause-meets
returns-clause-meets g c =
    IfSome_then (g.S.Shelf.files c.args.shelf.now) c.in_ok-topology.ensures.gives (λ files read.
    meets-topology files c.args.name.now (g.O.Sink.taken c.args.out.now) (g.O.Sink.taken c.report_of.new.out) c.in_ok-topology.topology read c.report_of.result c.report_of.ensures.meets)

pub returns-in_err-topology-clause-meets : goal.returns-in_err-topology-clause-meets
returns-in_err-topology-clause-meets g c =
    rw (passed c.from_residual.ensures.1) (IfSome_then (g.S.Shelf.files c.args.shelf.now) c.in_err-topology.ensures.gives (λ files no. meets-refused files c.args.name.now (g.O.Sink.taken c.args.out.now) c.in_err-topology.field-0.0 no))

pub returns-clause-statuses : goal.returns-clause-statuses
returns-clause-statuses g c = ends-routes c.in_ok-topology.topology c.report_of.result _ _ c.report_of.ensures.meets

pub returns-in_err-topology-clause-statuses : goal.returns-in_err-topology-clause-statuses
returns-in_err-topology-clause-statuses g c = rw (passed c.from_residual.ensures.1) (ends-refused (2 ∷ 6 ∷ 7 ∷ []) (2 ∷ 6 ∷ 7 ∷ 8 ∷ []) c.in_err-topology.field-0.0 refl c.in_err-topology.ensures.statuses)
