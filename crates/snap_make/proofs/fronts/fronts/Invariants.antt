-- The marks of the numbers so far.
use Rattle.std.proofs.Common.{length, slice_index}
use Rattle.snap_faithful.specs.Generated.{numbered_nodes}
use Rattle.snap_make.specs.Fronts.{AreMarked}
use Rattle.snap_make.proofs.fronts.fronts.Given as goal

abbrev pub invariant-loop-number : goal.invariant-loop-number
invariant-loop-number l = AreMarked (numbered_nodes l.nodes l.numbering.ids.items (slice_index l.numbering.numbers.items)) l.number (length l.numbering.ids.items) l.marks.items
