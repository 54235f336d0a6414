-- The rows of the numbers so far.
use Rattle.std.proofs.Common.{◌≡◌, ◌++◌}
use Rattle.std.specs.List.{All}
use Rattle.snap_rows.specs.Bodies.{IsPlaced}
use Rattle.snap_make.specs.Pairs.{at_switch}
use Rattle.snap_make.specs.Shares.{entries, shown, with_stop}
use Rattle.snap_make.proofs.shares.push_rows.Given as goal

abbrev pub invariant-loop-number : goal.invariant-loop-number
invariant-loop-number l = record {
  placed : All (IsPlaced (with_stop l.bodies)) l.rows.items;
  rows : entries (with_stop l.bodies) l.rows.items ≡ entries (with_stop l.bodies) l.fn.rows.items ++ at_switch (shown l.tables l.bodies l.fronts l.site.at) l.site.at l.number;
}
