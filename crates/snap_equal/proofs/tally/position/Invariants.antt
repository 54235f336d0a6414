-- Nothing is kept.
use Rattle.snap_equal.proofs.tally.position.Given as goal

abbrev pub invariant-loop-i : goal.invariant-loop-i
invariant-loop-i l = Unit {0}
