-- The atoms so far are equal.
use Rattle.std.proofs.Common.{◌≡◌, ◌<◌, ℕ, get_or}
use Rattle.snap_core.specs.declared.policy.Atom.TheVariants.{Num as Number}
use Rattle.snap_core.specs.Arrays.{value_of}
use Rattle.snap_equal.specs.Told.{On}
use Rattle.snap_equal.proofs.places.reads_index.Given as goal

abbrev pub invariant-loop-i : goal.invariant-loop-i
invariant-loop-i l = (j : ℕ) → j < l.i → On l.ctx (λ m k. value_of (get_or l.left j (Number 0)) k ≡ value_of (get_or l.right j (Number 0)) k)
