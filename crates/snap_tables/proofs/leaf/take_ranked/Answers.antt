use Rattle.std.proofs.Common.{◌<◌, ◌^◌, arith, sym, ap, ◌∙◌}
use Rattle.std.proofs.lemmas.Option.{MatchOption-at_none, MatchOption-at_some}
use Rattle.snap_tables.specs.Reading.{words_left}
use Rattle.snap_tables.specs.Rows.{rises_from}
use Rattle.snap_tables.proofs.LeafLaws.{updates-fail, updates-no, updates-yes}
use Rattle.snap_tables.proofs.leaf.take_ranked.Goals as goal

pub returns-in-None : goal.returns-in-None
returns-in-None c =
    let fits : c.args.counts.comps < 2 ^ 64 = omega (arith, c.well_formed) in
    let few : c.args.counts.arrays < 2 ^ 64 = omega (arith, c.well_formed) in
    let ends : c.args.counts.switches < 2 ^ 64 = omega (arith, c.well_formed) in
    updates-fail c.args.counts fits few ends (words_left c.args.rest) c.args.arrays.now (MatchOption-at_none _ _ c.in-None.is c.in_ok-take_all.ensures)

pub returns-then-not-ranks_rise : goal.returns-then-not-ranks_rise
returns-then-not-ranks_rise c =
    let fits : c.args.counts.comps < 2 ^ 64 = omega (arith, c.well_formed) in
    let few : c.args.counts.arrays < 2 ^ 64 = omega (arith, c.well_formed) in
    let ends : c.args.counts.switches < 2 ^ 64 = omega (arith, c.well_formed) in
    updates-no c.args.counts fits few ends (words_left c.args.rest) c.args.arrays.now c.in-Some.updates.items (words_left c.in-Some.left) (MatchOption-at_some _ _ _ c.in-Some.is c.in_ok-take_all.ensures) (sym (ap (rises_from c.args.arrays.now 0) c.deref.ensures.value) ∙ sym c.ranks_rise.ensures ∙ c.if-not-ranks_rise.true)

pub returns-else-not-ranks_rise : goal.returns-else-not-ranks_rise
returns-else-not-ranks_rise c =
    let fits : c.args.counts.comps < 2 ^ 64 = omega (arith, c.well_formed) in
    let few : c.args.counts.arrays < 2 ^ 64 = omega (arith, c.well_formed) in
    let ends : c.args.counts.switches < 2 ^ 64 = omega (arith, c.well_formed) in
    rw c.new.ensures (updates-yes c.args.counts fits few ends (words_left c.args.rest) c.args.arrays.now c.in-Some.updates.items (words_left c.in-Some.left) (MatchOption-at_some _ _ _ c.in-Some.is c.in_ok-take_all.ensures) (sym (ap (rises_from c.args.arrays.now 0) c.deref.ensures.value) ∙ sym c.ranks_rise.ensures ∙ c.if-not-ranks_rise.false))
