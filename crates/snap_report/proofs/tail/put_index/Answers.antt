use Rattle.std.proofs.Common.{ℕ, List, decimal, codes, ◌++◌, get_or, arith}
use Rattle.std.proofs.lemmas.List.{get_or_default}
use Rattle.std.proofs.lemmas.Result.{err_from_is_err_and}
use Rattle.snap_io.proofs.OutputLemmas.{puts-more, puts-part}
use Rattle.snap_report.proofs.tail.put_index.Goals as goal

abbrev number_text : ℕ → List ℕ
number_text n = codes " " ++ decimal n

pub returns-in_err-put_number-clause-puts : goal.returns-in_err-put_number-clause-puts
returns-in_err-put_number-clause-puts g c =
    let out = err_from_is_err_and c.from_residual.result c.from_residual.ensures.1 in
    let index = c.args.index.now in
    let at = c.loop-number.number-index in
    rw out.1 (puts-part number_text _ _ _ c.args.out.now.text.items c.loop-number.out.text.items index at (get_or index at 0) c.loop-number-test.true (get_or_default _ _ _ _ c.loop-number-test.true) c.loop-number.invariant.put c.in_err-put_number.ensures.puts)

pub loop-number-preserved : goal.loop-number-preserved
loop-number-preserved g c =
    let index = c.args.index.now in
    let at = c.loop-number.number-index in
    record {
      put = puts-more number_text _ _ _ c.args.out.now.text.items c.loop-number.out.text.items index at (get_or index at 0) c.loop-number-test.true (get_or_default _ _ _ _ c.loop-number-test.true) c.loop-number.invariant.put c.put_number.new.out.text.items c.in_ok-put_number.ensures.puts;
      later = omega (arith, c.in_ok-put_number.ensures.cause.later);
    }
