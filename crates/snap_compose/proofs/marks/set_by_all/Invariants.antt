-- The components so far.
use Rattle.std.proofs.Common.{take}
use Rattle.std.specs.List.{All}
use Rattle.snap_compose.specs.Marks.{SetsAmong}
use Rattle.snap_compose.proofs.marks.set_by_all.Given as goal

abbrev pub invariant-loop-out : goal.invariant-loop-out
invariant-loop-out l = All (SetsAmong l.set) (take l.out-index l.outs)
