-- The arrays so far.
use Rattle.snap_make.specs.Outlined.{AreArrays}
use Rattle.snap_make.proofs.outline.arrays.Given as goal

abbrev pub invariant-loop-var : goal.invariant-loop-var
invariant-loop-var l = AreArrays l.version l.names l.placement l.groups.ranks l.var l.arrays.items
