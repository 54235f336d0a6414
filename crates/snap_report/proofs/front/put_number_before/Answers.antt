use Rattle.std.proofs.Common.{arith}
use Rattle.snap_report.proofs.DigitLemmas.{length-decimal_wide}
use Rattle.snap_report.proofs.front.put_number_before.Goals as goal

pub put_digits_before-requires-clause-room : goal.put_digits_before-requires-clause-room
put_digits_before-requires-clause-room c = omega (arith, length-decimal_wide c.args.number c.ranges.number.fits)

pub returns-then-number-lt100000-clause-short : goal.returns-then-number-lt100000-clause-short
returns-then-number-lt100000-clause-short c = omega (arith, length-decimal_wide c.args.number c.ranges.number.fits)

pub put_long_before-requires-clause-room : goal.put_long_before-requires-clause-room
put_long_before-requires-clause-room c = omega (arith, length-decimal_wide c.args.number c.ranges.number.fits)

pub returns-else-number-lt100000-clause-short : goal.returns-else-number-lt100000-clause-short
returns-else-number-lt100000-clause-short c = omega (arith, length-decimal_wide c.args.number c.ranges.number.fits)
