-- A mark for each node.
use Rattle.std.proofs.Common.{◌≡◌, length}
use Rattle.snap_equal.proofs.marks.joined.Given as goal

abbrev pub invariant-loop-back : goal.invariant-loop-back
invariant-loop-back l = record {
  reached : length l.reached.items ≡ length l.nodes;
  again : length l.again.items ≡ length l.nodes;
}
