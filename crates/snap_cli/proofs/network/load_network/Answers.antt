use Rattle.snap_cli.proofs.NetworkLemmas.{network-fault}
use Rattle.std.proofs.Common.{[], ◌∷◌, Err, IfErr, refl, sym, subst}
use Rattle.snap_cli.specs.Statuses.{RefusesWith}
use Rattle.snap_cli.proofs.Relayed.{relayed}
use Rattle.snap_cli.proofs.StatusLemmas.{of-routes, refuses-more}
use Rattle.snap_io.specs.Files.{file_of}
use Rattle.snap_cli.specs.NetworkSteps.{GivesNetwork}
use Rattle.std.proofs.lemmas.Option.{IfSome_then}
use Rattle.snap_cli.proofs.network.load_network.Goals as goal

pub returns-clause-gives : goal.returns-clause-gives
returns-clause-gives g c =
    let name = c.args.name.now in
    IfSome_then (g.S.Shelf.files c.args.shelf.now) c.in_ok-topology.ensures.gives (λ files read.
    subst (λ e. GivesNetwork name (file_of files name) (Err e)) (sym c.refusal_of_routes.ensures) (network-fault name (file_of files name) c.in_ok-topology.topology c.in-Err.fault read c.in-Err.ensures.unreachable))

pub returns-in_err-topology-clause-statuses : goal.returns-in_err-topology-clause-statuses
returns-in_err-topology-clause-statuses g c =
    let e = c.in_err-topology.field-0.0 in
    relayed (λ r. IfErr r (RefusesWith (2 ∷ 6 ∷ 7 ∷ 8 ∷ []))) c.from_residual.result e c.from_residual.ensures.1
    (refuses-more (2 ∷ 6 ∷ 7 ∷ []) (2 ∷ 6 ∷ 7 ∷ 8 ∷ []) e refl c.in_err-topology.ensures.statuses)

pub returns-clause-statuses : goal.returns-clause-statuses
returns-clause-statuses g c = subst (RefusesWith (2 ∷ 6 ∷ 7 ∷ 8 ∷ [])) (sym c.refusal_of_routes.ensures) (of-routes c.in_ok-topology.topology.switches c.in-Err.fault)
