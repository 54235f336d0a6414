-- The arrays so far.
use Rattle.std.proofs.Common.{◌≡◌, ◌<◌, ℕ, true, false}
use Rattle.snap_core.specs.Arrays.{has}
use Rattle.snap_context.specs.Known.{IsSettled}
use Rattle.snap_context.proofs.settled.settled.Given as goal

abbrev pub invariant-loop-var : goal.invariant-loop-var
invariant-loop-var l = (a : ℕ) → has l.set a ≡ true → (a < 64) × (has l.arrays a ≡ false) × IsSettled l.classes l.facts a
