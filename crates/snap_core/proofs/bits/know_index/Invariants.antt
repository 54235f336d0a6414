use Rattle.std.proofs.Common.{take}
use Rattle.std.specs.List.{All}
use Rattle.snap_core.specs.Ranges.{AtomInRange}
use Rattle.snap_core.proofs.bits.know_index.Given as goal

abbrev pub invariant-loop-atom : goal.invariant-loop-atom
invariant-loop-atom l = All AtomInRange (take l.atom-index l.atoms)
