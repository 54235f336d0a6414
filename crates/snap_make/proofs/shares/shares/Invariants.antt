-- The rows of the switches so far.
use Rattle.std.proofs.Common.{◌≡◌, length}
use Rattle.std.specs.List.{All}
use Rattle.snap_rows.specs.Bodies.{IsPlaced}
use Rattle.snap_make.specs.Pairs.{at_switches}
use Rattle.snap_make.specs.Shares.{entries, shown, with_stop}
use Rattle.snap_make.proofs.shares.shares.Given as goal

abbrev pub invariant-loop-at : goal.invariant-loop-at
invariant-loop-at l = record {
  placed : All (IsPlaced (with_stop l.bodies)) l.rows.items;
  rows : entries (with_stop l.bodies) l.rows.items ≡ at_switches (shown l.tables l.bodies l.fronts) l.at (length l.bodies);
}
