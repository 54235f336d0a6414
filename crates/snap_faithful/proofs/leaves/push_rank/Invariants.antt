-- What is pushed so far, and what is left.
use Rattle.std.proofs.Common.{◌≡◌, ◌++◌, drop}
use Rattle.snap_faithful.specs.Leaves.{of_rank}
use Rattle.snap_faithful.proofs.leaves.push_rank.Given as goal

abbrev pub invariant-loop-up : goal.invariant-loop-up
invariant-loop-up l = l.to.items ++ of_rank l.groups.ranks l.rank (drop l.up-index l.ups) ≡ l.fn.to.items ++ of_rank l.fn.groups.ranks l.fn.rank l.fn.ups
