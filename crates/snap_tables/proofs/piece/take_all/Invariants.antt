use Rattle.std.proofs.Common.{◌≡◌, ◌<◌, false, ◌++◌, length}
use Rattle.std.specs.List.{All, flat_map}
use Rattle.snap_tables.specs.Reading.{words_left}
use Rattle.snap_tables.proofs.piece.take_all.Given as goal

-- the pieces so far stand at the front
abbrev pub invariant-loop-alloc : goal.invariant-loop-alloc
invariant-loop-alloc g l = record {
  words : words_left l.fn.rest ≡ flat_map g.T.Piece.spelled l.pieces.items ++ words_left l.left;
  each : All (g.T.Piece.fits l.counts) l.pieces.items;
  last : 0 < length l.pieces.items → g.T.Piece.goes_on (words_left l.left) ≡ false;
}

abbrev pub decreases-loop-alloc : goal.decreases-loop-alloc
decreases-loop-alloc g l = length (words_left l.left)
