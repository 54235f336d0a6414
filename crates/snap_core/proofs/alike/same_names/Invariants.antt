-- The names so far are equal.
use Rattle.std.proofs.Common.{◌≡◌, take}
use Rattle.snap_core.proofs.alike.same_names.Given as goal

abbrev pub invariant-loop-i : goal.invariant-loop-i
invariant-loop-i l = take l.i l.left ≡ take l.i l.right
