-- The switches so far.
use Rattle.snap_make.specs.Marks.{MarksSoFar}
use Rattle.snap_make.proofs.ways.ways.Given as goal

abbrev pub invariant-loop-at : goal.invariant-loop-at
invariant-loop-at l = MarksSoFar l.routes l.target l.fn.here l.at l.marks
