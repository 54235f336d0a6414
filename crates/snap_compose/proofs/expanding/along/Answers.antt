-- The side of the test, or the diagram itself.
use Rattle.snap_compose.proofs.Ahead.{along_missed, along_itself}
use Rattle.snap_compose.proofs.expanding.along.Goals as goal

pub returns-then-misses_test-clause-along : goal.returns-then-misses_test-clause-along
returns-then-misses_test-clause-along c = λ ranks s i. along_missed ranks s c.args.mark c.args.test.now c.args.yes _ _ (c.misses_test.ensures c.if-misses_test.true) (c.side.ensures.side ranks s i)

pub returns-else-misses_test-clause-along : goal.returns-else-misses_test-clause-along
returns-else-misses_test-clause-along c = λ ranks s i. along_itself ranks s c.args.mark c.args.test.now c.args.yes _ i
