use Rattle.std.proofs.Common.{◌≡◌, ◌-◌, length}
use Rattle.snap_rows.specs.Standing.{AreNodesFrom, place_in}
use Rattle.snap_rows.proofs.rules.nodes.nodes.Given as goal

abbrev pub invariant-loop-turn : goal.invariant-loop-turn
invariant-loop-turn l = record {
  low : length l.nodes.low.items ≡ l.below;
  nodes : AreNodesFrom l.tables (length l.tables.rows - l.turn) (place_in l.nodes);
}
