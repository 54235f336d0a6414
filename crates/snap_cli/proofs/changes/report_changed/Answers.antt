use Rattle.std.proofs.Common.{[], ◌∷◌, inl, inr, refl}
use Rattle.snap_words.specs.Commands.{changes, plain}
use Rattle.snap_cli.specs.Statuses.{statuses_of_trace}
use Rattle.snap_cli.proofs.StatusLemmas.{ends-more, ends-refused}
use Rattle.std.proofs.lemmas.Option.{IfSome_then}
use Rattle.snap_cli.proofs.Relayed.{IfSome_both, passed}
use Rattle.snap_cli.proofs.changes.report_changed.Goals as goal

pub returns-clause-meets : goal.returns-clause-meets
returns-clause-meets g c =
    IfSome_both (g.S.Shelf.files c.args.shelf.now) _ c.in_ok-later.ensures.devices.files c.in_ok-later.ensures.gives c.report_later.ensures.meets (λ files loaded run. inr (c.in_ok-later.later.items, loaded, run))

pub returns-in_err-later-clause-meets : goal.returns-in_err-later-clause-meets
returns-in_err-later-clause-meets g c = rw (passed c.from_residual.ensures.1) (IfSome_then (g.S.Shelf.files c.args.shelf.now) c.in_err-later.ensures.gives (λ files no. inl (c.in_err-later.field-0.0, no, refl, refl)))

pub returns-clause-statuses : goal.returns-clause-statuses
returns-clause-statuses g c = ends-more (statuses_of_trace plain) (statuses_of_trace (changes c.args.lines.now)) c.report_later.result refl c.report_later.ensures.statuses

pub returns-in_err-later-clause-statuses : goal.returns-in_err-later-clause-statuses
returns-in_err-later-clause-statuses g c = rw (passed c.from_residual.ensures.1) (ends-refused (2 ∷ 6 ∷ 11 ∷ 20 ∷ []) (statuses_of_trace (changes c.args.lines.now)) c.in_err-later.field-0.0 refl c.in_err-later.ensures.statuses)
