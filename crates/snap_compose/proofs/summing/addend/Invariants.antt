-- All that are passed add.
use Rattle.std.proofs.Common.{ℕ, ◌+◌, ◌<◌, ◌≤◌, length, get_or}
use Rattle.snap_core.specs.declared.policy.Update.{Update}
use Rattle.snap_compose.specs.Additions.{Adds}
use Rattle.snap_compose.proofs.summing.addend.Given as goal

abbrev pub invariant-loop-passed : goal.invariant-loop-passed
invariant-loop-passed l = (j : ℕ) (d : Update) → length l.updates ≤ j + l.passed → j < length l.updates → Adds (get_or l.updates j d)
