use Rattle.std.proofs.Common.{◌≡◌}
use Rattle.snap_io.specs.Causes.{NoneFell}
use Rattle.snap_io.specs.LineReaders.{AgreesWith, OnlyReads, left_to_read}
use Rattle.snap_io.proofs.lines.Lines.read_line.Given as goal

abbrev pub invariant-loop-self : goal.invariant-loop-self
invariant-loop-self g l =
    let shelf = g.S.Shelf in
    record {
      agrees : AgreesWith (shelf.files l.shelf) l.self;
      reads : OnlyReads l.fn.self l.self;
      same : shelf.files l.shelf ≡ shelf.files l.fn.shelf;
      later : NoneFell (shelf.faults l.fn.shelf) (shelf.faults l.shelf);
    }

abbrev pub decreases-loop-self : goal.decreases-loop-self
decreases-loop-self g l = left_to_read l.self
