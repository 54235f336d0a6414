-- The names so far are equal.
use Rattle.std.proofs.Common.{◌≡◌, take}
use Rattle.snap_runs.specs.Reports.{names_of}
use Rattle.snap_runs.proofs.shape.same_names.Given as goal

abbrev pub invariant-loop-i : goal.invariant-loop-i
invariant-loop-i l = take l.i (names_of l.left) ≡ take l.i (names_of l.right)
