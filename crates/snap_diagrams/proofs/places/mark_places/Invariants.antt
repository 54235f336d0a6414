-- The marks so far.
use Rattle.std.proofs.Common.{◌≡◌, length}
use Rattle.snap_diagrams.specs.Places.{ArePlaced}
use Rattle.snap_diagrams.proofs.places.mark_places.Given as goal

abbrev pub invariant-loop-id : goal.invariant-loop-id
invariant-loop-id l = record {
  count : length l.marks.items ≡ l.id-index;
  marked : ArePlaced l.spelling l.nodes l.reached.ids.items l.marks.items;
}
