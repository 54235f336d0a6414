-- None of the outs so far makes the packet.
use Rattle.std.proofs.Common.{◌≡◌, ◌<◌, ℕ, [], get_or}
use Rattle.snap_core.specs.Tests.{after_out}
use Rattle.snap_equal.specs.Told.{On}
use Rattle.snap_equal.proofs.outs.has_out.Given as goal

abbrev pub invariant-loop-other : goal.invariant-loop-other
invariant-loop-other l = (j : ℕ) → j < l.other-index → On l.ctx (λ m k. after_out (get_or l.outs j []) k ≡ after_out l.out k → ⊥)
