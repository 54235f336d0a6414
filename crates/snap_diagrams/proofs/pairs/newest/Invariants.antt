use Rattle.std.proofs.Common.{◌≡◌, ◌∷◌, [], take, reverse}
use Rattle.snap_core.specs.Cells.{cell}
use Rattle.snap_diagrams.specs.Memos.{paired}
use Rattle.snap_diagrams.proofs.pairs.newest.Given as goal

abbrev pub invariant-loop-pair : goal.invariant-loop-pair
invariant-loop-pair l = l.found ≡ cell (paired (reverse (take l.pair-index l.pairs))) (l.a ∷ l.b ∷ [])
