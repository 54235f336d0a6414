-- The components so far get the same numbers, or a test is open.
use Rattle.std.proofs.Common.{◌≡◌, ◌<◌, ℕ}
use Rattle.std.specs.Prelude.{MatchOption}
use Rattle.snap_core.specs.declared.policy.Atom.TheVariants.{Comp}
use Rattle.snap_core.specs.Arrays.{value_of}
use Rattle.snap_compose.specs.PulledBack.{atom_from}
use Rattle.snap_equal.specs.declared.stop.Stop.TheVariants.{Split}
use Rattle.snap_equal.specs.Told.{IsStop, On}
use Rattle.snap_equal.proofs.outs.same_out.Given as goal

abbrev pub invariant-loop-comp : goal.invariant-loop-comp
invariant-loop-comp l = MatchOption l.open ((j : ℕ) → j < l.comp → On l.ctx (λ m k. value_of (atom_from (Comp j) l.left j) k ≡ value_of (atom_from (Comp j) l.right j) k)) (λ t. IsStop l.ctx 0 (Split t))
