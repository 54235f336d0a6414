use Rattle.snap_runs.proofs.Orders.{lines-more}
use Rattle.snap_runs.proofs.event.next_line.Goals as goal

pub returns-in-Some-clause-line : goal.returns-in-Some-clause-line
returns-in-Some-clause-line c = lines-more c.args.text.now c.in-Some.pair.0.now c.in-Some.pair.1.now c.in-Some.ensures.parts
