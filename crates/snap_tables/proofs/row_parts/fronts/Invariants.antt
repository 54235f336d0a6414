use Rattle.std.proofs.Common.{◌≡◌, map}
use Rattle.std.specs.List.{range_with_len}
use Rattle.snap_tables.specs.RowParts.{front_text}
use Rattle.snap_tables.proofs.row_parts.fronts.Given as goal

abbrev pub invariant-loop-at : goal.invariant-loop-at
invariant-loop-at l = l.fronts ≡ map front_text (range_with_len 0 l.at)
