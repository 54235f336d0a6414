-- The atoms so far.
use Rattle.std.proofs.Common.{take}
use Rattle.std.specs.List.{All}
use Rattle.snap_context.specs.Known.{AtomOver}
use Rattle.snap_context.proofs.tested.index_tested.Given as goal

abbrev pub invariant-loop-atom : goal.invariant-loop-atom
invariant-loop-atom l = All (AtomOver l.set) (take l.atom-index l.atom-items)
