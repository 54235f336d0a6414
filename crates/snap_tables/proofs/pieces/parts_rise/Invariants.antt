use Rattle.std.proofs.Common.{◌≡◌, ◌∷◌, length}
use Rattle.snap_tables.specs.Pieces.{is_adjacent}
use Rattle.snap_tables.specs.Rows.{part_less}
use Rattle.snap_tables.proofs.pieces.parts_rise.Given as goal

abbrev pub invariant-loop-next : goal.invariant-loop-next
invariant-loop-next l = is_adjacent part_less (l.last ∷ l.rest) ≡ is_adjacent part_less l.parts

abbrev pub decreases-loop-next : goal.decreases-loop-next
decreases-loop-next l = length l.rest
