-- The facts grow, and there is a limit.
use Rattle.std.proofs.Common.{◌-◌, ◌^◌, ◌+◌, ◌*◌, length}
use Rattle.snap_equal.proofs.sure.+leaves_same.Given as goal

abbrev pub decreases-leaves_same : goal.decreases-leaves_same
decreases-leaves_same l = 2 * (2 ^ 32 - length l.ctx.now.facts) + 1

abbrev pub decreases-leaves_same_where : goal.decreases-leaves_same_where
decreases-leaves_same_where l = 2 * (2 ^ 32 - length l.ctx.now.facts)
