-- Two tests of one kind.
use Rattle.snap_diagrams.proofs.order.compare.Goals as goal

pub returns-in-Value-b : goal.returns-in-Value-b
returns-in-Value-b c = rw (c.in-Value.is, c.in-Value-b.is) (c.compare_values.ensures c.args.groups.now.ranks)

pub returns-in-Equal-b-2 : goal.returns-in-Equal-b-2
returns-in-Equal-b-2 c = rw (c.in-Equal.is, c.in-Equal-b-2.is) (c.compare_equals.ensures c.args.groups.now.ranks)
