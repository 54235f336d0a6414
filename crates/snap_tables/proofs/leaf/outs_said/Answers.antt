use Rattle.std.proofs.Common.{◌<◌, ◌^◌, arith, sym, ap, ◌∙◌}
use Rattle.std.proofs.lemmas.Option.{MatchOption-at_none, MatchOption-at_some}
use Rattle.snap_tables.specs.Pieces.{is_adjacent}
use Rattle.snap_tables.specs.Reading.{words_left}
use Rattle.snap_tables.specs.Rows.{parts_less}
use Rattle.snap_tables.proofs.PieceLemmas.{false-true}
use Rattle.snap_tables.proofs.LeafLaws.{outs-fail, outs-no}
use Rattle.snap_tables.proofs.leaf.outs_said.Goals as goal

pub returns-in-None : goal.returns-in-None
returns-in-None c =
    let fits : c.args.counts.comps < 2 ^ 64 = omega (arith, c.well_formed) in
    let few : c.args.counts.arrays < 2 ^ 64 = omega (arith, c.well_formed) in
    let ends : c.args.counts.switches < 2 ^ 64 = omega (arith, c.well_formed) in
    outs-fail c.args.counts fits few ends (words_left c.args.rest) (MatchOption-at_none _ _ c.in-None.is c.in_ok-take_all.ensures)

pub returns-then-not-outs_rise : goal.returns-then-not-outs_rise
returns-then-not-outs_rise c =
    let fits : c.args.counts.comps < 2 ^ 64 = omega (arith, c.well_formed) in
    let few : c.args.counts.arrays < 2 ^ 64 = omega (arith, c.well_formed) in
    let ends : c.args.counts.switches < 2 ^ 64 = omega (arith, c.well_formed) in
    outs-no c.args.counts fits few ends (words_left c.args.rest) c.in-Some.outs.items (words_left c.in-Some.left) (MatchOption-at_some _ _ _ c.in-Some.is c.in_ok-take_all.ensures) (λ rise end. false-true (sym (sym (ap (is_adjacent parts_less) c.deref.ensures.value) ∙ sym c.outs_rise.ensures ∙ c.if-not-outs_rise.true) ∙ rise))

pub returns-then-not-no_words : goal.returns-then-not-no_words
returns-then-not-no_words c =
    let fits : c.args.counts.comps < 2 ^ 64 = omega (arith, c.well_formed) in
    let few : c.args.counts.arrays < 2 ^ 64 = omega (arith, c.well_formed) in
    let ends : c.args.counts.switches < 2 ^ 64 = omega (arith, c.well_formed) in
    outs-no c.args.counts fits few ends (words_left c.args.rest) c.in-Some.outs.items (words_left c.in-Some.left) (MatchOption-at_some _ _ _ c.in-Some.is c.in_ok-take_all.ensures) (λ rise end. false-true (sym (sym c.no_words.ensures ∙ c.if-not-no_words.true) ∙ end))
