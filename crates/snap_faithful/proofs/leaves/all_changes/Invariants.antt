-- The changes of the outs so far, and those that are left.
use Rattle.std.proofs.Common.{◌≡◌, ◌++◌, drop, map}
use Rattle.snap_faithful.specs.Leaves.{changes}
use Rattle.snap_faithful.proofs.leaves.all_changes.Given as goal

abbrev pub invariant-loop-out : goal.invariant-loop-out
invariant-loop-out l = l.all.items ++ map changes (drop l.out-index l.outs) ≡ map changes l.outs
