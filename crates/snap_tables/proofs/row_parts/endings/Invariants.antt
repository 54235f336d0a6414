use Rattle.std.proofs.Common.{◌≡◌, map}
use Rattle.std.specs.List.{range_with_len}
use Rattle.snap_tables.specs.RowParts.{ending_of}
use Rattle.snap_tables.proofs.row_parts.endings.Given as goal

abbrev pub invariant-loop-place : goal.invariant-loop-place
invariant-loop-place l = l.endings ≡ map (ending_of l.numbers l.bodies) (range_with_len 0 l.place)
