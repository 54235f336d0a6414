-- The components so far.
use Rattle.std.proofs.Common.{take}
use Rattle.snap_compose.specs.Marks.{SetsAmong}
use Rattle.snap_compose.proofs.marks.set_by.Given as goal

abbrev pub invariant-loop-part : goal.invariant-loop-part
invariant-loop-part l = SetsAmong l.set (take l.part-index l.part-items)
