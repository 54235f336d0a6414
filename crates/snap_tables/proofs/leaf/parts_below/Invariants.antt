use Rattle.std.proofs.Common.{◌≡◌, length}
use Rattle.snap_rows.specs.Form.{parts_cmp}
use Rattle.snap_tables.proofs.leaf.parts_below.Given as goal

abbrev pub invariant-loop-x : goal.invariant-loop-x
invariant-loop-x l = parts_cmp l.left l.right ≡ parts_cmp l.a l.b

abbrev pub decreases-loop-x : goal.decreases-loop-x
decreases-loop-x l = length l.left
