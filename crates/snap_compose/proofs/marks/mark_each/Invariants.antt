-- The numbers so far are marked.
use Rattle.std.proofs.Common.{◌≡◌, length}
use Rattle.snap_diagrams.specs.Reached.{AreNoted}
use Rattle.snap_compose.specs.Marks.{IsMarkedBy}
use Rattle.snap_compose.proofs.marks.mark_each.Given as goal

abbrev pub invariant-loop-id : goal.invariant-loop-id
invariant-loop-id l = record {
  count : length l.noted.items ≡ l.id-index;
  noted : AreNoted IsMarkedBy l.nodes l.reached.ids.items l.noted.items;
}
