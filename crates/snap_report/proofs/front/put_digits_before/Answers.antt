use Rattle.std.proofs.Common.{◌∙◌, ◌++◌, drop, sym, ap, arith}
use Rattle.std.proofs.lemmas.Fmt.{decimal_digit}
use Rattle.itoa.proofs.Decimal.{length_one}
use Rattle.snap_report.proofs.DigitLemmas.{decimal-behind, length-decimal_step}
use Rattle.snap_report.proofs.front.put_digits_before.Goals as goal

pub put_byte_before-begin-requires-clause-room : goal.put_byte_before-begin-requires-clause-room
put_byte_before-begin-requires-clause-room c = omega (arith, length-decimal_step c.loop-left.left c.loop-left-test.true c.loop-left.auto.left-fits.fits)

pub loop-left-preserved : goal.loop-left-preserved
loop-left-preserved c =
    let left = c.loop-left.left in
    let long = length-decimal_step left c.loop-left-test.true c.loop-left.auto.left-fits.fits in
    record {
      within = omega arith;
      room = omega arith;
      begin = omega arith;
      text = rw (c.put_byte_before-begin.ensures.text, c.digit.ensures) (sym (decimal-behind left (drop c.loop-left.begin c.loop-left.buffer) c.loop-left-test.true c.loop-left.auto.left-fits.fits) ∙ c.loop-left.invariant.text);
    }

pub put_byte_before-requires-clause-room : goal.put_byte_before-requires-clause-room
put_byte_before-requires-clause-room c = omega (arith, length_one c.loop-left.left c.loop-left-test.false)

pub returns-clause-begin : goal.returns-clause-begin
returns-clause-begin c = omega (arith, length_one c.loop-left.left c.loop-left-test.false)

pub returns-clause-text : goal.returns-clause-text
returns-clause-text c =
    let behind = drop c.loop-left.begin c.loop-left.buffer in
    rw (c.put_byte_before.ensures.text, c.digit-2.ensures) (sym (ap (λ digits. digits ++ behind) (decimal_digit c.loop-left.left c.loop-left-test.false)) ∙ c.loop-left.invariant.text)
