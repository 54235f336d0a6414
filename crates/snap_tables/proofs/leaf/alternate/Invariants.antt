use Rattle.std.proofs.Common.{◌≡◌, ◌∷◌, length}
use Rattle.snap_tables.specs.Pieces.{is_adjacent}
use Rattle.snap_tables.specs.Rows.{stands_apart}
use Rattle.snap_tables.proofs.leaf.alternate.Given as goal

abbrev pub invariant-loop-next : goal.invariant-loop-next
invariant-loop-next l = is_adjacent stands_apart (l.last ∷ l.rest) ≡ is_adjacent stands_apart l.stages

abbrev pub decreases-loop-next : goal.decreases-loop-next
decreases-loop-next l = length l.rest
