-- What is kept so far, and what is left.
use Rattle.std.proofs.Common.{◌≡◌, ◌++◌, drop}
use Rattle.snap_faithful.specs.Leaves.{changes}
use Rattle.snap_faithful.proofs.leaves.changes_of.Given as goal

abbrev pub invariant-loop-part : goal.invariant-loop-part
invariant-loop-part l = l.parts.items ++ changes (drop l.part-index l.out) ≡ changes l.out
