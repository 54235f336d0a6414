-- The rows of the numbers so far.
use Rattle.std.proofs.Common.{◌≡◌, ◌++◌}
use Rattle.std.specs.List.{All}
use Rattle.snap_rows.specs.Bodies.{IsPlaced}
use Rattle.snap_faithful.specs.OnDemand.{place_of}
use Rattle.snap_make.specs.Demanded.{demanded, with_gone}
use Rattle.snap_make.specs.Pairs.{at_switch}
use Rattle.snap_make.specs.Shares.{entries}
use Rattle.snap_make.proofs.demanded.push_rows.Given as goal

abbrev pub invariant-loop-number : goal.invariant-loop-number
invariant-loop-number l = record {
  placed : All (IsPlaced (with_gone (place_of l.tables) l.bodies)) l.rows.items;
  rows : entries (with_gone (place_of l.tables) l.bodies) l.rows.items ≡ entries (with_gone (place_of l.tables) l.bodies) l.fn.rows.items ++ at_switch (demanded l.tables l.bodies l.marks l.at) l.at l.number;
}
