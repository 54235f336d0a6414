use Rattle.std.proofs.Common.{◌∙◌, Some, ap, sym}
use Rattle.snap_core.specs.Fields.{found}
use Rattle.snap_report.proofs.DraftLemmas.{sets-named}
use Rattle.snap_report.proofs.GuessLemmas.{found_there, stands_behind}
use Rattle.snap_report.proofs.guess.Guess.find_ahead.Goals as goal

pub loop-place-preserved : goal.loop-place-preserved
loop-place-preserved c = record {
  stands = c.loop-place.invariant.stands;
  comps = stands_behind c.args.fields.now c.list-list.result.now c.loop-place.place c.loop-place.comp c.width-comp.result c.index-list-place.result c.list-list.ensures.list c.loop-place-test.true c.index-list-place.is c.width-comp.ensures c.loop-place.invariant.comps;
}

pub returns-in-Some-clause-stands : goal.returns-in-Some-clause-stands
returns-in-Some-clause-stands c = record {
  comps = stands_behind c.args.fields.now c.list-list.result.now c.loop-place.place c.loop-place.comp c.width-comp.result c.index-list-place.result c.list-list.ensures.list c.loop-place-test.true c.index-list-place.is c.width-comp.ensures c.loop-place.invariant.comps;
}

pub returns-in-Some-clause-found : goal.returns-in-Some-clause-found
returns-in-Some-clause-found c =
    let fields = c.args.fields.now in
    let there = found_there fields c.list-list.result.now c.loop-place.place c.loop-place.comp c.index-list-place.result c.list-list.ensures.fields c.list-list.ensures.list c.loop-place-test.true c.index-list-place.is c.loop-place.invariant.comps in
    sets-named fields c.args.text.now c.items.result.now c.in-Some.rest.now c.whole.result c.in-Some.ensures.front
    (ap (found fields) c.items.ensures ∙ there ∙ ap Some (sym c.whole.ensures))
