-- The most so far, and what is left.
use Rattle.std.proofs.Common.{◌≡◌, drop, max}
use Rattle.snap_rows.specs.Entries.{ranks_in}
use Rattle.snap_make.proofs.sites.ranks.Given as goal

abbrev pub invariant-loop-array : goal.invariant-loop-array
invariant-loop-array l = max l.most (ranks_in (drop l.array-index l.arrays)) ≡ ranks_in l.fn.arrays
