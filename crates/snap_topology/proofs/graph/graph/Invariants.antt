use Rattle.std.proofs.Common.{◌≡◌, ◌<◌, ◌↔◌, ℕ, length}
use Rattle.std.specs.List.Sorted.{IsNonDecreasing}
use Rattle.snap_topology.specs.Graphs.{Adjacent, neighbours_of}
use Rattle.snap_topology.specs.Walks.{Linked}
use Rattle.snap_topology.proofs.graph.graph.Given as goal

-- the switches so far have their neighbours
abbrev pub invariant-loop-switch : goal.invariant-loop-switch
invariant-loop-switch l = record {
  count : length l.graph.items ≡ l.switch;
  linked : (a m : ℕ) → a < l.switch → Adjacent l.graph.items a m ↔ Linked l.links a m;
  rise : (a : ℕ) → a < l.switch → IsNonDecreasing (neighbours_of l.graph.items a);
}
