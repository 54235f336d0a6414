use Rattle.std.proofs.Common.{◌≡◌, ◌<◌, ℕ, slice_index}
use Rattle.snap_placement.specs.Together.{TiedBy}
use Rattle.snap_placement.proofs.together.torn_from.Given as goal

abbrev pub invariant-loop-b : goal.invariant-loop-b
invariant-loop-b l = (d : ℕ) → l.a < d → d < l.b → TiedBy l.groups l.a d → slice_index l.owners l.a ≡ slice_index l.owners d
