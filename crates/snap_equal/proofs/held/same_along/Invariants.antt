-- The places so far hold the same, or a test is open.
use Rattle.std.proofs.Common.{◌≡◌, ◌<◌, ℕ, true, get_or}
use Rattle.std.specs.Prelude.{MatchOption}
use Rattle.snap_core.specs.declared.policy.Update.{Update}
use Rattle.snap_core.specs.Arrays.{place_at, updates}
use Rattle.snap_equal.specs.declared.stop.Stop.TheVariants.{Split}
use Rattle.snap_equal.specs.Tally.{is_chosen}
use Rattle.snap_equal.specs.Told.{IsStop, On}
use Rattle.snap_equal.proofs.held.same_along.Given as goal

abbrev pub invariant-loop-update : goal.invariant-loop-update
invariant-loop-update l = MatchOption l.open ((e : Update) (j : ℕ) → j < l.update-index
    → On l.ctx (λ m k. let u : Update = get_or l.along j e in is_chosen l.only u.var ≡ true → updates m l.left k (place_at u.var u.index k) ≡ updates m l.right k (place_at u.var u.index k))) (λ t. IsStop l.ctx l.arrays (Split t))
