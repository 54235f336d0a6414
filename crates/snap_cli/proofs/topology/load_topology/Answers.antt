use Rattle.std.proofs.Common.{[], ◌∷◌, refl, sym, subst}
use Rattle.snap_cli.specs.Statuses.{RefusesWith}
use Rattle.snap_cli.proofs.StatusLemmas.{of-topology, refuses-more}
use Rattle.snap_cli.proofs.Relayed.{passed}
use Rattle.snap_cli.proofs.topology.load_topology.Goals as goal

pub returns-clause-statuses : goal.returns-clause-statuses
returns-clause-statuses g c = subst (RefusesWith (2 ∷ 6 ∷ 7 ∷ [])) (sym c.refusal_of_topology.ensures) (of-topology c.in-Err.fault)

pub returns-in_err-text-clause-statuses : goal.returns-in_err-text-clause-statuses
returns-in_err-text-clause-statuses g c = rw (passed c.from_residual.ensures.1) (refuses-more (2 ∷ 6 ∷ []) (2 ∷ 6 ∷ 7 ∷ []) c.in_err-text.field-0.0 refl c.in_err-text.ensures.statuses)
