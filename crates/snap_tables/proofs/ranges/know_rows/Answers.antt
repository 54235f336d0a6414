use Rattle.std.proofs.Common.{sym, subst, arith}
use Rattle.std.specs.List.{All}
use Rattle.std.proofs.lemmas.List.{take_all}
use Rattle.std.proofs.lemmas.List.Elements.{All-more}
use Rattle.std.proofs.lemmas.Option.{get_or_from_slice_get, slice_get_within}
use Rattle.snap_rows.specs.Bodies.{lent}
use Rattle.snap_tables.specs.Ranges.{RowAtInRange}
use Rattle.snap_tables.proofs.ranges.know_rows.Goals as goal

pub loop-place-preserved : goal.loop-place-preserved
loop-place-preserved c =
    let rows = c.args.rows.now in
    let i = c.loop-place.place in
    let r = lent c.at-row.result in
    let within = slice_get_within rows i r c.at-row.ensures in
    All-more RowAtInRange rows i r within c.loop-place.invariant
    (subst RowAtInRange (sym (get_or_from_slice_get rows i r r c.at-row.ensures)) (record { number = c.know_number.ensures; row = c.know_row.ensures }))

pub returns : goal.returns
returns c = subst (All RowAtInRange) (take_all c.loop-place.place c.args.rows.now (omega (arith, c.loop-place-test.false, c.len-place-end.ensures))) c.loop-place.invariant
