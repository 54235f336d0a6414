-- Both components, and those of the index and of the term.
use Rattle.snap_context.proofs.Testing.{among_left, among_right, index_left, term_right}
use Rattle.snap_context.proofs.tested.test_tested.Goals as goal

pub returns-in-Equal-clause-over : goal.returns-in-Equal-clause-over
returns-in-Equal-clause-over c = rw c.in-Equal.is (
  among_left c.bit-in-Equal.result c.bit-in-Equal-2.result c.in-Equal.left c.bit-in-Equal.ensures,
  among_right c.bit-in-Equal.result c.bit-in-Equal-2.result c.in-Equal.right c.bit-in-Equal-2.ensures,
)

pub returns-in-State-clause-over : goal.returns-in-State-clause-over
returns-in-State-clause-over c = rw c.in-State.is (
  c.bit-in-State.ensures,
  index_left c.index_tested.result c.term_tested.result c.in-State.index c.index_tested.ensures,
  term_right c.index_tested.result c.term_tested.result c.in-State.value c.term_tested.ensures,
)
