use Rattle.std.proofs.Common.{◌≡◌, ◌<◌, ℕ, length}
use Rattle.snap_topology.specs.Hops.{IsToward}
use Rattle.snap_topology.specs.Tables.{row_in}
use Rattle.snap_topology.proofs.rows.all_routes.Given as goal

-- the switches so far have their rows
abbrev pub invariant-loop-target : goal.invariant-loop-target
invariant-loop-target l = record {
  room : length l.distances.items ≡ length l.graph;
  count : length l.rows.items ≡ l.target;
  rows : (b : ℕ) → b < l.target → IsToward l.graph b (row_in l.rows.items b);
}
