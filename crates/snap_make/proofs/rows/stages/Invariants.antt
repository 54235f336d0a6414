-- The stages so far.
use Rattle.std.proofs.Common.{◌≡◌, ◌≤◌, ◌++◌, ◌-◌, length, drop}
use Rattle.snap_faithful.specs.OnDemand.{place_of, stages_of}
use Rattle.snap_make.proofs.rows.stages.Given as goal

abbrev pub invariant-loop-start : goal.invariant-loop-start
invariant-loop-start l = record {
  within : l.start ≤ length l.ups;
  all : l.stages.items ++ stages_of (place_of l.tables) (drop l.start l.ups) ≡ stages_of (place_of l.tables) l.ups;
}

abbrev pub decreases-loop-start : goal.decreases-loop-start
decreases-loop-start l = length l.ups - l.start
