-- The updates so far.
use Rattle.std.proofs.Common.{take}
use Rattle.std.specs.List.{All}
use Rattle.snap_core.specs.declared.policy.Update.{Update}
use Rattle.snap_core.specs.Laws.{OpIsSmall}
use Rattle.snap_make.proofs.known.know_updates.Given as goal

abbrev pub invariant-loop-up : goal.invariant-loop-up
invariant-loop-up l = All (λ (u : Update). OpIsSmall u.op) (take l.up-index l.fn.ups)
