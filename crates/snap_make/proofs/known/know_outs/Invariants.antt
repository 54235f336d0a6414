-- The outs so far.
use Rattle.std.proofs.Common.{take}
use Rattle.std.specs.List.{All}
use Rattle.snap_core.specs.Tests.{IsRisingOut}
use Rattle.snap_make.proofs.known.know_outs.Given as goal

abbrev pub invariant-loop-out : goal.invariant-loop-out
invariant-loop-out l = All IsRisingOut (take l.out-index l.fn.outs)
