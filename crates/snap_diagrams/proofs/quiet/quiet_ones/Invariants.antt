-- The marks so far.
use Rattle.std.proofs.Common.{◌≡◌, length}
use Rattle.snap_diagrams.specs.Quiet.{IsMarked}
use Rattle.snap_diagrams.proofs.quiet.quiet_ones.Given as goal

abbrev pub invariant-loop-id : goal.invariant-loop-id
invariant-loop-id l = record {
  count : length l.quiet.items ≡ l.id-index;
  marked : IsMarked l.survey l.nodes l.reached.ids.items l.quiet.items;
}
