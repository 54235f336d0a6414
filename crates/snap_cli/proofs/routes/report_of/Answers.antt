use Rattle.std.proofs.Common.{Err, sym, subst, inl}
use Rattle.snap_cli.specs.RoutesSteps.{MeetsTopology}
use Rattle.snap_cli.proofs.RoutesLemmas.{meets-fault}
use Rattle.snap_cli.proofs.routes.report_of.Goals as goal

pub returns-in-Ok-clause-meets : goal.returns-in-Ok-clause-meets
returns-in-Ok-clause-meets g c = inl (c.in-Ok.routes, c.in-Ok.ensures.routes, c.write_routes.ensures.writes)

pub returns-clause-meets : goal.returns-clause-meets
returns-clause-meets g c =
    let out = g.O.Sink.taken c.args.out.now in
    subst (λ e. MeetsTopology c.args.topology (Err e) out out) (sym c.refusal_of_routes.ensures)
    (meets-fault c.args.topology out c.in-Err.fault c.in-Err.ensures.unreachable)
