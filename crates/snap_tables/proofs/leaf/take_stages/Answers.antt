use Rattle.std.proofs.Common.{◌≤◌, ◌<◌, ◌^◌, length, arith, sym, ap, ◌∙◌}
use Rattle.std.proofs.lemmas.Grind.{common_steps}
use Rattle.std.proofs.lemmas.Option.{MatchOption-at_none, MatchOption-at_some}
use Rattle.snap_tables.specs.Pieces.{is_adjacent}
use Rattle.snap_tables.specs.Reading.{words_left}
use Rattle.snap_tables.specs.Rows.{stands_apart}
use Rattle.snap_tables.proofs.PieceLemmas.{false-true}
use Rattle.snap_tables.proofs.LeafLaws.{stages-fail, stages-no, stages-yes}
use Rattle.snap_tables.proofs.leaf.take_stages.Goals as goal

pub returns-in-None : goal.returns-in-None
returns-in-None c =
    let fits : c.args.counts.comps < 2 ^ 64 = omega (arith, c.well_formed) in
    let few : c.args.counts.arrays < 2 ^ 64 = omega (arith, c.well_formed) in
    let ends : c.args.counts.switches < 2 ^ 64 = omega (arith, c.well_formed) in
    stages-fail c.args.counts fits few ends (words_left c.args.rest) (MatchOption-at_none _ _ c.in-None.is c.in_ok-take_all.ensures)

pub returns-then-not-alternate : goal.returns-then-not-alternate
returns-then-not-alternate c =
    let fits : c.args.counts.comps < 2 ^ 64 = omega (arith, c.well_formed) in
    let few : c.args.counts.arrays < 2 ^ 64 = omega (arith, c.well_formed) in
    let ends : c.args.counts.switches < 2 ^ 64 = omega (arith, c.well_formed) in
    stages-no c.args.counts fits few ends (words_left c.args.rest) c.in-Some.stages.items (words_left c.in-Some.left) (MatchOption-at_some _ _ _ c.in-Some.is c.in_ok-take_all.ensures) (λ apart less. false-true (sym (sym (ap (is_adjacent stands_apart) c.deref.ensures.value) ∙ sym c.alternate.ensures ∙ c.if-not-alternate.true) ∙ apart))

pub returns-then-len-gt65535 : goal.returns-then-len-gt65535
returns-then-len-gt65535 c =
    let fits : c.args.counts.comps < 2 ^ 64 = omega (arith, c.well_formed) in
    let few : c.args.counts.arrays < 2 ^ 64 = omega (arith, c.well_formed) in
    let ends : c.args.counts.switches < 2 ^ 64 = omega (arith, c.well_formed) in
    let many : 65535 < length c.in-Some.stages.items = grind (arith, common_steps) in
    stages-no c.args.counts fits few ends (words_left c.args.rest) c.in-Some.stages.items (words_left c.in-Some.left) (MatchOption-at_some _ _ _ c.in-Some.is c.in_ok-take_all.ensures) (λ apart less. omega (arith, many, less))

pub returns-else-len-gt65535 : goal.returns-else-len-gt65535
returns-else-len-gt65535 c =
    let fits : c.args.counts.comps < 2 ^ 64 = omega (arith, c.well_formed) in
    let few : c.args.counts.arrays < 2 ^ 64 = omega (arith, c.well_formed) in
    let ends : c.args.counts.switches < 2 ^ 64 = omega (arith, c.well_formed) in
    let less : length c.in-Some.stages.items ≤ 65535 = grind (arith, common_steps) in
    rw c.new.ensures (stages-yes c.args.counts fits few ends (words_left c.args.rest) c.in-Some.stages.items (words_left c.in-Some.left) (MatchOption-at_some _ _ _ c.in-Some.is c.in_ok-take_all.ensures) (sym (ap (is_adjacent stands_apart) c.deref.ensures.value) ∙ sym c.alternate.ensures ∙ c.if-not-alternate.false) less)
