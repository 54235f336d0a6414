use Rattle.std.proofs.Common.{◌≡◌, ◌∷◌, length}
use Rattle.snap_tables.specs.Pieces.{is_adjacent}
use Rattle.snap_tables.specs.Rows.{parts_less}
use Rattle.snap_tables.proofs.leaf.outs_rise.Given as goal

abbrev pub invariant-loop-next : goal.invariant-loop-next
invariant-loop-next l = is_adjacent parts_less (l.last ∷ l.rest) ≡ is_adjacent parts_less l.outs

abbrev pub decreases-loop-next : goal.decreases-loop-next
decreases-loop-next l = length l.rest
