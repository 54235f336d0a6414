use Rattle.std.proofs.Common.{List, length}
use Rattle.std.specs.List.{All}
use Rattle.snap_runs.specs.declared.tally.Tally.{Tally}
use Rattle.snap_order.specs.Playing.{NumberIsBelow}
use Rattle.snap_order.specs.Rounding.{AreThere, NoteTurns}
use Rattle.snap_order.proofs.play.note_turns.Given as goal

abbrev pub invariant-loop-moved : goal.invariant-loop-moved
invariant-loop-moved l = record {
  noted : (end : List Tally) → NoteTurns l.hops l.net.tables.switches l.net.flying l.place l.left.items l.tallies.items end → NoteTurns l.hops l.net.tables.switches l.net.flying 0 l.fn.done.items l.fn.tallies.items end;
  below : All (NumberIsBelow (length l.tallies.items)) l.left.items;
  there : AreThere l.place l.net.flying l.left.items;
}

abbrev pub decreases-loop-moved : goal.decreases-loop-moved
decreases-loop-moved l = length l.left.items
