use Rattle.std.proofs.Common.{◌≡◌, List, ap, subst, ◌∙◌, [], ◌∷◌, refl}
use Rattle.std.proofs.lemmas.Result.{IfOk-weaker}
use Rattle.snap_runs.specs.declared.change.Change.{Change}
use Rattle.snap_runs.specs.Changing.{IsRising}
use Rattle.snap_cli.specs.ChangesSteps.{LoadsLaters, afters, afters_of}
use Rattle.snap_cli.proofs.ChangesLemmas.{loads-all, rising-changes}
use Rattle.snap_cli.proofs.StatusLemmas.{refuses-more}
use Rattle.snap_cli.proofs.Relayed.{IfSome_both}
use Rattle.snap_cli.proofs.changes.load_changes.Goals as goal

pub returns-clause-gives : goal.returns-clause-gives
returns-clause-gives g c =
    IfSome_both (g.S.Shelf.files c.args.shelf.now) _ c.in-Ok.ensures.devices.files c.in-Ok.ensures.gives c.load_all.ensures.gives (λ files said loaded.
    loads-all files c.args.first.now c.args.name.now c.in-Ok.changes.items c.load_all.result said (subst (λ cs. LoadsLaters files c.args.first.now cs c.load_all.result) c.deref.ensures.value loaded))

pub returns-clause-rising : goal.returns-clause-rising
returns-clause-rising g c =
    let cs = c.in-Ok.changes.items in
    IfOk-weaker c.load_all.result (λ later. afters later.items ≡ afters_of c.deref.result.now) (λ later. IsRising later.items)
    (λ later same. rising-changes later.items cs (same ∙ ap (λ (l : List Change). afters_of l) c.deref.ensures.value) c.in-Ok.ensures.rising) c.load_all.ensures.afters

pub returns-in-Err-clause-statuses : goal.returns-in-Err-clause-statuses
returns-in-Err-clause-statuses g c = refuses-more (2 ∷ 6 ∷ 20 ∷ []) (2 ∷ 6 ∷ 11 ∷ 20 ∷ []) c.in-Err.refusal refl c.in-Err.ensures.statuses
