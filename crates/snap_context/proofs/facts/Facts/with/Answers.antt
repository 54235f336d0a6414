-- What all are about is what the fact is about, and those before it.
use Rattle.std.proofs.Common.{ap, length, arith}
use Rattle.snap_context.proofs.Testing.{all_over}
use Rattle.snap_context.proofs.facts.Facts.with.Goals as goal

pub invariant_of-result : goal.invariant_of-result
invariant_of-result c = (
  omega (arith, c.len.ensures, ap length c.deref.ensures),
  rw c.either.ensures
      (all_over c.test_tested.result c.tested.result c.args.fact c.args.before.value (rw c.test.ensures at c.test_tested.ensures.over) (rw c.deref-2.ensures at c.tested.ensures)),
)
