-- The atoms so far are equal, or a test is open.
use Rattle.std.proofs.Common.{◌≡◌, ◌<◌, ℕ, get_or}
use Rattle.std.specs.Prelude.{MatchOption}
use Rattle.snap_core.specs.declared.policy.Atom.TheVariants.{Num as Number}
use Rattle.snap_core.specs.Arrays.{value_of}
use Rattle.snap_equal.specs.declared.stop.Stop.TheVariants.{Split}
use Rattle.snap_equal.specs.Told.{IsStop, On}
use Rattle.snap_equal.proofs.places.same_index.Given as goal

abbrev pub invariant-loop-i : goal.invariant-loop-i
invariant-loop-i l = MatchOption l.open ((j : ℕ) → j < l.i → On l.ctx (λ m k. value_of (get_or l.left j (Number 0)) k ≡ value_of (get_or l.right j (Number 0)) k)) (λ t. IsStop l.ctx 0 (Split t))
