-- No bit from 64 on.
use Rattle.std.proofs.Common.{rules, arith}
use Rattle.std.proofs.lemmas.Nat.Bits.{bit_at_above}
use Rattle.snap_core.proofs.Unwritten.{without}
use Rattle.snap_context.proofs.sets.is_in.Goals as goal

pub returns-else-number-lt64 : goal.returns-else-number-lt64
returns-else-number-lt64 c =
    let none = without c.args.set c.args.number (bit_at_above c.args.set 64 c.args.number (omega (arith, c.ranges.set.fits)) (omega (arith, c.if-number-lt64.false))) in
    rw none (search rules)
