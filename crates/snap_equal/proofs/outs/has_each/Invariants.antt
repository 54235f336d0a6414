-- The packets of the outs so far are made.
use Rattle.std.proofs.Common.{◌<◌, ℕ, [], get_or}
use Rattle.snap_core.specs.Tests.{after_out}
use Rattle.snap_equal.specs.Made.{Makes}
use Rattle.snap_equal.specs.Told.{On}
use Rattle.snap_equal.proofs.outs.has_each.Given as goal

abbrev pub invariant-loop-out : goal.invariant-loop-out
invariant-loop-out l = (j : ℕ) → j < l.out-index → On l.ctx (λ m k. Makes l.others k (after_out (get_or l.outs j []) k))
