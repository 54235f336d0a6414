-- The rows of the switches so far.
use Rattle.std.proofs.Common.{◌≡◌, length}
use Rattle.std.specs.List.{All}
use Rattle.snap_rows.specs.Bodies.{IsPlaced}
use Rattle.snap_faithful.specs.OnDemand.{place_of}
use Rattle.snap_make.specs.Demanded.{demanded, with_gone}
use Rattle.snap_make.specs.Pairs.{at_switches}
use Rattle.snap_make.specs.Shares.{entries}
use Rattle.snap_make.proofs.demanded.shares.Given as goal

abbrev pub invariant-loop-at : goal.invariant-loop-at
invariant-loop-at l = record {
  placed : All (IsPlaced (with_gone (place_of l.tables) l.bodies)) l.rows.items;
  rows : entries (with_gone (place_of l.tables) l.bodies) l.rows.items ≡ at_switches (demanded l.tables l.bodies l.marks) l.at (length l.bodies);
}
