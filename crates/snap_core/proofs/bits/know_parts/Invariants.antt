use Rattle.std.proofs.Common.{take}
use Rattle.snap_core.specs.Ranges.{OutInRange}
use Rattle.snap_core.proofs.bits.know_parts.Given as goal

abbrev pub invariant-loop-part : goal.invariant-loop-part
invariant-loop-part l = OutInRange (take l.part-index l.parts)
