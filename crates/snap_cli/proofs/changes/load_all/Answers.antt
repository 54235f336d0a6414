use Rattle.std.proofs.Common.{◌++◌, ◌∷◌, ◌+◌, [], List, take, sym, ap, subst, ◌∙◌, arith}
use Rattle.std.specs.List.{All}
use Rattle.std.specs.Prelude.{IfSome}
use Rattle.std.proofs.lemmas.List.{drop_all, map-append, take_more}
use Rattle.std.proofs.lemmas.List.Elements.{All-push}
use Rattle.snap_runs.specs.declared.change.Change.{Change}
use Rattle.snap_runs.specs.declared.later.Later.{Later}
use Rattle.snap_runs.specs.Shapes.{HaveOneShape}
use Rattle.snap_cli.proofs.ChangesLemmas.{Loaded, told-all, told-more, told-no_more}
use Rattle.snap_cli.specs.ChangesSteps.{LoadsLaters, afters, afters_of}
use Rattle.snap_cli.proofs.Relayed.{relayed}
use Rattle.snap_cli.proofs.changes.load_all.Goals as goal

pub loop-change-preserved : goal.loop-change-preserved
loop-change-preserved g c =
    let l = c.loop-change in
    let i = l.change-index in
    let all = c.args.changes.now in
    let x : Later = c.in_ok-next.next in
    let item : Change = c.change-item.result in
    let pushed = c.in_ok-push_later.ensures.pushed in
    let told = g.S.Shelf.files c.args.shelf.now in
    record {
      loaded = subst (λ (ls : List Later). IfSome told (λ files. Loaded files c.args.first.now all (i + 1) ls)) (sym pushed)
          (told-more told (g.S.Shelf.files l.shelf) c.args.first.now all i item l.later.items x l.invariant.files c.loop-change-test.true c.change-item.is l.invariant.loaded c.in_ok-next.ensures.gives);
      shapes = subst (All (λ (y : Later). HaveOneShape y.tables c.args.first.now)) (sym pushed) (All-push (λ (y : Later). HaveOneShape y.tables c.args.first.now) l.later.items x l.invariant.shapes c.in_ok-next.ensures.shape);
      afters_same = ap afters pushed ∙ map-append (λ (y : Later). y.after) l.later.items (x ∷ []) ∙ (λ j. l.invariant.afters_same j ++ c.in_ok-next.ensures.after j ∷ [])
          ∙ sym (map-append (λ (y : Change). y.after) (take i all) (item ∷ [])) ∙ ap afters_of ((λ j. take i all ++ c.change-item.is j ∷ []) ∙ sym (take_more all i item c.loop-change-test.true));
      files = c.load_later.ensures.devices.files ∙ l.invariant.files;
      none_fell = λ name. (let a = l.invariant.none_fell name in let b = c.load_later.ensures.devices.later name in omega (arith, a, b));
    }

pub returns-in_err-next-clause-gives : goal.returns-in_err-next-clause-gives
returns-in_err-next-clause-gives g c =
    let l = c.loop-change in
    let told = g.S.Shelf.files c.args.shelf.now in
    let all = c.args.changes.now in
    let e = c.in_err-next.field-0.0 in
    relayed (λ r. IfSome told (λ files. LoadsLaters files c.args.first.now all r)) c.from_residual.result e c.from_residual.ensures.1
    (told-no_more told (g.S.Shelf.files l.shelf) c.args.first.now all l.change-index c.change-item.result l.later.items e l.invariant.files c.loop-change-test.true c.change-item.is l.invariant.loaded c.in_err-next.ensures.gives)

pub returns-clause-gives : goal.returns-clause-gives
returns-clause-gives g c =
    let l = c.loop-change in
    told-all (g.S.Shelf.files c.args.shelf.now) c.args.first.now c.args.changes.now l.change-index l.later.items (drop_all l.change-index c.args.changes.now c.loop-change-test.false) l.invariant.loaded
