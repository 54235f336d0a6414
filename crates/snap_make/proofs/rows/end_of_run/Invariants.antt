-- The updates so far.
use Rattle.snap_faithful.specs.OnDemand.{place_of}
use Rattle.snap_make.proofs.Runs.{AreAt}
use Rattle.snap_make.proofs.rows.end_of_run.Given as goal

abbrev pub invariant-loop-end : goal.invariant-loop-end
invariant-loop-end l = AreAt (place_of l.tables) l.ups l.start l.at l.end
