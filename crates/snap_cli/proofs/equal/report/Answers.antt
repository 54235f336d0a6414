-- Both programs are read, or the first that isn't tells why.
use Rattle.std.proofs.Common.{[], ◌∷◌, refl}
use Rattle.snap_words.specs.Commands.{equal}
use Rattle.snap_cli.proofs.EqualLemmas.{equal-refuses, equal-refuses-second, meets-equal}
use Rattle.snap_cli.proofs.RefusedBy.{meets-refused}
use Rattle.snap_cli.proofs.StatusLemmas.{ends-equal, ends-refused}
use Rattle.std.proofs.lemmas.Option.{IfSome_then}
use Rattle.snap_cli.proofs.Relayed.{IfSome_both, passed}
use Rattle.snap_cli.proofs.equal.report.Goals as goal

pub returns-clause-meets : goal.returns-clause-meets
returns-clause-meets g c =
    IfSome_both (g.S.Shelf.files c.args.shelf.now) _ c.in_ok-first.ensures.devices.files c.in_ok-first.ensures.gives c.in_ok-second.ensures.gives (λ files left right.
    meets-equal files c.args.left.now c.args.right.now c.in_ok-first.first left c.in_ok-second.second right (g.O.Sink.taken c.args.out.now) (g.O.Sink.taken c.answer.new.out) c.answer.result c.answer.ensures.meets)

pub returns-in_err-second-clause-meets : goal.returns-in_err-second-clause-meets
returns-in_err-second-clause-meets g c =
    let l = c.args.left.now in let r = c.args.right.now in
    rw (passed c.from_residual-in_err-second.ensures.1) (IfSome_both (g.S.Shelf.files c.args.shelf.now) _ c.in_ok-first.ensures.devices.files c.in_ok-first.ensures.gives c.in_err-second.ensures.gives (λ files left no.
    meets-refused files (equal l r) r (g.O.Sink.taken c.args.out.now) c.in_err-second.field-0.0 (equal-refuses-second files l r c.in_ok-first.first left) no))

pub returns-in_err-first-clause-meets : goal.returns-in_err-first-clause-meets
returns-in_err-first-clause-meets g c =
    let l = c.args.left.now in let r = c.args.right.now in
    rw (passed c.from_residual.ensures.1) (IfSome_then (g.S.Shelf.files c.args.shelf.now) c.in_err-first.ensures.gives (λ files no. meets-refused files (equal l r) l (g.O.Sink.taken c.args.out.now) c.in_err-first.field-0.0 (equal-refuses files l r) no))

pub returns-clause-statuses : goal.returns-clause-statuses
returns-clause-statuses g c = ends-equal c.in_ok-first.first c.in_ok-second.second c.answer.result _ _ c.answer.ensures.meets

pub returns-in_err-second-clause-statuses : goal.returns-in_err-second-clause-statuses
returns-in_err-second-clause-statuses g c = rw (passed c.from_residual-in_err-second.ensures.1) (ends-refused (2 ∷ 4 ∷ 5 ∷ 6 ∷ []) (2 ∷ 4 ∷ 5 ∷ 6 ∷ 10 ∷ 17 ∷ 18 ∷ []) c.in_err-second.field-0.0 refl c.in_err-second.ensures.statuses)

pub returns-in_err-first-clause-statuses : goal.returns-in_err-first-clause-statuses
returns-in_err-first-clause-statuses g c = rw (passed c.from_residual.ensures.1) (ends-refused (2 ∷ 4 ∷ 5 ∷ 6 ∷ []) (2 ∷ 4 ∷ 5 ∷ 6 ∷ 10 ∷ 17 ∷ 18 ∷ []) c.in_err-first.field-0.0 refl c.in_err-first.ensures.statuses)
