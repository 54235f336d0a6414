-- The codes so far are those of outs.
use Rattle.snap_equal.specs.Made.{AreSpelled}
use Rattle.snap_equal.proofs.spelling.spellings.Given as goal

abbrev pub invariant-loop-out : goal.invariant-loop-out
invariant-loop-out l = AreSpelled l.ctx l.outs l.spelled
