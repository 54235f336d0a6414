-- The marks so far.
use Rattle.std.proofs.Common.{◌≡◌, length}
use Rattle.snap_diagrams.specs.Tested.{AreTested}
use Rattle.snap_diagrams.proofs.tested.mark_tests.Given as goal

abbrev pub invariant-loop-id : goal.invariant-loop-id
invariant-loop-id l = record {
  count : length l.marks.items ≡ l.id-index;
  marked : AreTested l.nodes l.reached.ids.items l.marks.items;
}
