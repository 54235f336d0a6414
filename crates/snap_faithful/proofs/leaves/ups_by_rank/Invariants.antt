-- The updates of the ranks so far.
use Rattle.std.proofs.Common.{◌≡◌}
use Rattle.snap_faithful.specs.Leaves.{by_ranks}
use Rattle.snap_faithful.proofs.leaves.ups_by_rank.Given as goal

abbrev pub invariant-loop-rank : goal.invariant-loop-rank
invariant-loop-rank l = l.sorted.items ≡ by_ranks l.groups.ranks l.rank l.ups
