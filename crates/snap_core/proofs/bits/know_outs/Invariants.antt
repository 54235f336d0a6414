use Rattle.std.proofs.Common.{take}
use Rattle.std.specs.List.{All}
use Rattle.snap_core.specs.Ranges.{OutInRange}
use Rattle.snap_core.proofs.bits.know_outs.Given as goal

abbrev pub invariant-loop-out : goal.invariant-loop-out
invariant-loop-out l = All OutInRange (take l.out-index l.outs)
