use Rattle.std.proofs.Common.{get_or, arith}
use Rattle.std.proofs.lemmas.List.{get_or_default}
use Rattle.std.proofs.lemmas.Result.{err_from_is_err_and}
use Rattle.snap_io.proofs.OutputLemmas.{puts-more, puts-part}
use Rattle.snap_rows.specs.declared.lists.Placed.{Placed}
use Rattle.snap_tables.specs.RowParts.{placed_line}
use Rattle.snap_tables.proofs.print.put_rows.Goals as goal

abbrev none : Placed
none = record { number = 0; at = 0; body = 0 }

pub returns-in_err-put_row-clause-puts : goal.returns-in_err-put_row-clause-puts
returns-in_err-put_row-clause-puts g c =
    let rows = c.args.rows.now in
    let i = c.loop-row.row-index in
    let row = get_or rows i none in
    let is = get_or_default rows i none row c.loop-row-test.true in
    let out = err_from_is_err_and c.from_residual.result c.from_residual.ensures.1 in
    rw out.1 (puts-part (placed_line c.args.parts.now c.args.bodies.now) _ _ _ c.args.out.now.text.items c.loop-row.out.text.items rows i row c.loop-row-test.true is c.loop-row.invariant.put c.in_err-put_row.ensures.puts)

pub loop-row-preserved : goal.loop-row-preserved
loop-row-preserved g c =
    let rows = c.args.rows.now in
    let i = c.loop-row.row-index in
    let row = get_or rows i none in
    let is = get_or_default rows i none row c.loop-row-test.true in
    record {
      put = puts-more (placed_line c.args.parts.now c.args.bodies.now) _ _ _ c.args.out.now.text.items c.loop-row.out.text.items rows i row c.loop-row-test.true is c.loop-row.invariant.put c.put_row.new.out.text.items c.in_ok-put_row.ensures.puts;
      later = omega (arith, c.in_ok-put_row.ensures.blames.later, c.loop-row.invariant.later);
    }
