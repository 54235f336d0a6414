use Rattle.std.proofs.Common.{[], ◌∷◌, refl}
use Rattle.snap_cli.proofs.StatusLemmas.{refuses-more}
use Rattle.std.proofs.lemmas.Option.{IfSome_then}
use Rattle.snap_cli.proofs.changes.load_later.Goals as goal

pub returns-clause-gives : goal.returns-clause-gives
returns-clause-gives g c =
    IfSome_then (g.S.Shelf.files c.args.shelf.now) c.in-Ok.ensures.gives (λ files spelled. record { after = refl; spelled = spelled; shape = c.same_shape.ensures.0 c.if-not-same_shape.false })

pub returns-in-Err-clause-statuses : goal.returns-in-Err-clause-statuses
returns-in-Err-clause-statuses g c = refuses-more (2 ∷ 6 ∷ 11 ∷ []) (2 ∷ 6 ∷ 11 ∷ 20 ∷ []) c.in-Err.refusal refl c.in-Err.ensures.statuses
