-- The updates so far.
use Rattle.std.proofs.Common.{drop}
use Rattle.snap_make.specs.Marks.{WalksSoFar}
use Rattle.snap_faithful.specs.OnDemand.{place_of}
use Rattle.snap_make.proofs.demands.walk.Given as goal

abbrev pub invariant-loop-up : goal.invariant-loop-up
invariant-loop-up l = WalksSoFar l.routes (place_of l.tables) l.from l.ups l.at (drop l.up-index l.ups) l.fn.here l.marks
