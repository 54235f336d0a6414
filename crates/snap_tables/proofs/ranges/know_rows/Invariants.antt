use Rattle.std.proofs.Common.{take}
use Rattle.std.specs.List.{All}
use Rattle.snap_tables.specs.Ranges.{RowAtInRange}
use Rattle.snap_tables.proofs.ranges.know_rows.Given as goal

abbrev pub invariant-loop-place : goal.invariant-loop-place
invariant-loop-place l = All RowAtInRange (take l.place l.rows)
