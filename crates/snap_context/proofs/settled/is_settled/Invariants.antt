-- No fact on the array so far.
use Rattle.std.specs.Prelude.{⊤}
use Rattle.snap_context.proofs.settled.is_settled.Given as goal

abbrev pub invariant-loop-fact : goal.invariant-loop-fact
invariant-loop-fact l = ⊤
