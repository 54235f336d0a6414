-- What is left decides.
use Rattle.std.proofs.Common.{◌≡◌, ◌≤◌, drop, length}
use Rattle.snap_rows.specs.Form.{parts_cmp}
use Rattle.snap_faithful.proofs.leaves.compare_parts.Given as goal

abbrev pub invariant-loop-at : goal.invariant-loop-at
invariant-loop-at l = (parts_cmp (drop l.at l.a) (drop l.at l.b) ≡ parts_cmp l.a l.b) × (l.at ≤ length l.b)
