use Rattle.std.proofs.Common.{◌≡◌, ◌<◌, ◌^◌, length, arith}
use Rattle.std.proofs.lemmas.Grind.{common_steps}
use Rattle.std.proofs.lemmas.Option.{MatchOption-at_none, MatchOption-at_some}
use Rattle.snap_tables.specs.Reading.{words_left}
use Rattle.snap_tables.proofs.PieceLaws.{stage-empty, stage-fails, stage-nowhere, stage-piece}
use Rattle.snap_tables.proofs.pieces.StagePiece.take.Goals as goal

pub returns-in_default-take_below : goal.returns-in_default-take_below
returns-in_default-take_below c =
    let fits : c.args.counts.comps < 2 ^ 64 = omega (arith, c.well_formed) in
    let few : c.args.counts.arrays < 2 ^ 64 = omega (arith, c.well_formed) in
    let ends : c.args.counts.switches < 2 ^ 64 = omega (arith, c.well_formed) in
    stage-nowhere c.args.counts fits few ends (words_left c.args.rest) (words_left c.in-Some.behind) c.in-Some.ensures c.in_default-take_below.ensures

pub returns-in-None : goal.returns-in-None
returns-in-None c =
    let fits : c.args.counts.comps < 2 ^ 64 = omega (arith, c.well_formed) in
    let few : c.args.counts.arrays < 2 ^ 64 = omega (arith, c.well_formed) in
    let ends : c.args.counts.switches < 2 ^ 64 = omega (arith, c.well_formed) in
    stage-fails c.args.counts fits few ends (words_left c.args.rest) (words_left c.in-Some.behind) c.in-Some.ensures c.in-Some-take_below.at (words_left c.in-Some-take_below.behind) c.in-Some-take_below.ensures (MatchOption-at_none _ _ c.in-None.is c.in_ok-take_all.ensures)

pub returns-then-is_empty : goal.returns-then-is_empty
returns-then-is_empty c =
    let fits : c.args.counts.comps < 2 ^ 64 = omega (arith, c.well_formed) in
    let few : c.args.counts.arrays < 2 ^ 64 = omega (arith, c.well_formed) in
    let ends : c.args.counts.switches < 2 ^ 64 = omega (arith, c.well_formed) in
    let none : length c.in-Some-2.ups.items ≡ 0 = grind (arith, common_steps) in
    stage-empty c.args.counts fits few ends (words_left c.args.rest) (words_left c.in-Some.behind) c.in-Some.ensures c.in-Some-take_below.at (words_left c.in-Some-take_below.behind) c.in-Some-take_below.ensures c.in-Some-2.ups.items (words_left c.in-Some-2.left) (MatchOption-at_some _ _ _ c.in-Some-2.is c.in_ok-take_all.ensures) none

pub returns-else-is_empty : goal.returns-else-is_empty
returns-else-is_empty c =
    let fits : c.args.counts.comps < 2 ^ 64 = omega (arith, c.well_formed) in
    let few : c.args.counts.arrays < 2 ^ 64 = omega (arith, c.well_formed) in
    let ends : c.args.counts.switches < 2 ^ 64 = omega (arith, c.well_formed) in
    let some : 0 < length c.in-Some-2.ups.items = grind (arith, common_steps) in
    rw c.new-ups.ensures (stage-piece c.args.counts fits few ends (words_left c.args.rest) (words_left c.in-Some.behind) c.in-Some.ensures c.in-Some-take_below.at (words_left c.in-Some-take_below.behind) c.in-Some-take_below.ensures c.in-Some-2.ups.items (words_left c.in-Some-2.left) (MatchOption-at_some _ _ _ c.in-Some-2.is c.in_ok-take_all.ensures) some)
