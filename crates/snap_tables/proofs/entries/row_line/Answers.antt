use Rattle.std.proofs.Common.{refl, sym, ◌∙◌, arith}
use Rattle.std.proofs.lemmas.Option.{MatchOption-at_none, MatchOption-at_some}
use Rattle.snap_tables.specs.Known.{body_said, row_next}
use Rattle.snap_tables.specs.Reading.{words_left}
use Rattle.snap_tables.proofs.NextLemmas.{rowline-below, rowline-none, rowline-nowhere, rowline-some, rowline-unnumbered}
use Rattle.snap_tables.proofs.entries.row_line.Goals as goal

pub returns-in_default-take_below-clause-line : goal.returns-in_default-take_below-clause-line
returns-in_default-take_below-clause-line c =
    let d = c.args.draft.now in
    rowline-nowhere d.version c.args.counts d.arrays.items d.rows c.args.line.now (omega (arith, c.well_formed)) (omega (arith, c.well_formed)) (omega (arith, c.well_formed)) (words_left c.in-Some.rest) c.in-Some.ensures c.in_default-take_below.ensures

pub returns-in_default-take_u64-clause-line : goal.returns-in_default-take_u64-clause-line
returns-in_default-take_u64-clause-line c =
    let d = c.args.draft.now in
    rowline-unnumbered d.version c.args.counts d.arrays.items d.rows c.args.line.now (omega (arith, c.well_formed)) (omega (arith, c.well_formed)) (omega (arith, c.well_formed)) (words_left c.in-Some.rest) c.in-Some.ensures
    c.in-Some-take_below.at (words_left c.in-Some-take_below.rest) c.in-Some-take_below.ensures c.in_default-take_u64.ensures

pub returns-then-not-is_above_rows-clause-line : goal.returns-then-not-is_above_rows-clause-line
returns-then-not-is_above_rows-clause-line c =
    let d = c.args.draft.now in
    rowline-below d.version c.args.counts d.arrays.items d.rows c.args.line.now (omega (arith, c.well_formed)) (omega (arith, c.well_formed)) (omega (arith, c.well_formed)) (words_left c.in-Some.rest) c.in-Some.ensures
    c.in-Some-take_below.at (words_left c.in-Some-take_below.rest) c.in-Some-take_below.ensures c.in-Some-take_u64.number (words_left c.in-Some-take_u64.rest) c.in-Some-take_u64.ensures (sym c.is_above_rows.ensures ∙ c.if-not-is_above_rows.true)

pub returns-in-None-clause-line : goal.returns-in-None-clause-line
returns-in-None-clause-line c =
    let d = c.args.draft.now in
    rowline-none d.version c.args.counts d.arrays.items d.rows c.args.line.now (omega (arith, c.well_formed)) (omega (arith, c.well_formed)) (omega (arith, c.well_formed)) (words_left c.in-Some.rest) c.in-Some.ensures
    c.in-Some-take_below.at (words_left c.in-Some-take_below.rest) c.in-Some-take_below.ensures c.in-Some-take_u64.number (words_left c.in-Some-take_u64.rest) c.in-Some-take_u64.ensures (MatchOption-at_none _ _ c.in-None.is c.in_ok-body_of.ensures.said)

pub returns-in-Some-2-clause-line : goal.returns-in-Some-2-clause-line
returns-in-Some-2-clause-line c =
    let d = c.args.draft.now in
    rowline-some d.version c.args.counts d.arrays.items d.rows c.args.line.now (omega (arith, c.well_formed)) (omega (arith, c.well_formed)) (omega (arith, c.well_formed)) (words_left c.in-Some.rest) c.in-Some.ensures
    c.in-Some-take_below.at (words_left c.in-Some-take_below.rest) c.in-Some-take_below.ensures c.in-Some-take_u64.number (words_left c.in-Some-take_u64.rest) c.in-Some-take_u64.ensures (sym c.is_above_rows.ensures ∙ c.if-not-is_above_rows.false)
    (body_said d.rows c.in-Some-2.body) (MatchOption-at_some _ _ _ c.in-Some-2.is c.in_ok-body_of.ensures.said)

pub returns-in-Some-2-clause-known : goal.returns-in-Some-2-clause-known
returns-in-Some-2-clause-known c =
    MatchOption-at_some _ _ _ c.in-Some-2.is c.in_ok-body_of.ensures.known (row_next c.args.draft.now.rows (record { at = c.in-Some-take_below.at; number = c.in-Some-take_u64.number; body = c.in-Some-2.body })) refl

pub returns-in-Some-2-clause-placed : goal.returns-in-Some-2-clause-placed
returns-in-Some-2-clause-placed c = MatchOption-at_some _ _ _ c.in-Some-2.is c.in_ok-body_of.ensures.placed
