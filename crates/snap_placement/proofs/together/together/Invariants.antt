use Rattle.std.proofs.Common.{◌<◌, ℕ}
use Rattle.snap_placement.specs.Together.{IsTogetherWith, TiedBy}
use Rattle.snap_placement.proofs.together.together.Given as goal

abbrev pub invariant-loop-a : goal.invariant-loop-a
invariant-loop-a l = (c : ℕ) → c < l.a → IsTogetherWith (TiedBy l.groups) l.owners c
