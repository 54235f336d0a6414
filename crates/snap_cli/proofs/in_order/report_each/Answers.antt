use Rattle.std.proofs.Common.{Ok, Err, refl, ap, sym, subst}
use Rattle.snap_words.specs.Commands.{plain}
use Rattle.snap_cli.specs.Statuses.{EndsWith, statuses_of_trace}
use Rattle.snap_cli.proofs.StatusLemmas.{of-traced}
use Rattle.std.proofs.lemmas.Option.{IfSome_then}
use Rattle.snap_cli.proofs.in_order.report_each.Goals as goal

pub returns-in-Ok-clause-meets : goal.returns-in-Ok-clause-meets
returns-in-Ok-clause-meets g c = IfSome_then (g.S.Shelf.files c.args.shelf.now) c.in-Ok.ensures.report (λ files run. (Ok tt, run, refl))

pub returns-in-Err-clause-meets : goal.returns-in-Err-clause-meets
returns-in-Err-clause-meets g c =
    IfSome_then (g.S.Shelf.files c.args.shelf.now) c.in-Err.ensures.report (λ files run. (Err c.in-Err.fault, run, ap (λ e. Err e) c.refusal_of_run.ensures))

pub returns-in-Err-clause-statuses : goal.returns-in-Err-clause-statuses
returns-in-Err-clause-statuses g c = subst (λ e. EndsWith (statuses_of_trace plain) (Err e)) (sym c.refusal_of_run.ensures) (of-traced c.args.packets c.in-Err.fault c.in-Err.ensures.defined)
