use Rattle.snap_placement.specs.DemandAnswer.{Lists}
use Rattle.snap_placement.specs.Marks.{GroupMarked}
use Rattle.snap_placement.proofs.marks.places.Given as goal

-- the switches so far
abbrev pub invariant-loop-at : goal.invariant-loop-at
invariant-loop-at l = Lists (GroupMarked l.groups l.marks l.var) l.at l.places.items
