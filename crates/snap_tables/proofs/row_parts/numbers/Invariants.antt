use Rattle.std.proofs.Common.{◌≡◌, length}
use Rattle.snap_tables.proofs.row_parts.numbers.Given as goal

abbrev pub invariant-loop-row : goal.invariant-loop-row
invariant-loop-row l = length l.numbers.items ≡ l.count
