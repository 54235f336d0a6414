use Rattle.std.proofs.Common.{◌≤◌, ◌+◌, length}
use Rattle.snap_topology.specs.Search.{unreached}
use Rattle.snap_topology.proofs.Levels.{Levels}
use Rattle.snap_topology.proofs.search.distances_to.Given as goal

-- at most `left` are not reached
abbrev pub invariant-levels : goal.invariant-levels
invariant-levels l = record {
  levels : Levels l.graph l.target l.distance l.distances l.level.items;
  left : unreached l.distances ≤ l.left;
}

-- each turn reaches a switch or leaves an empty level
abbrev pub decreases-levels : goal.decreases-levels
decreases-levels l = unreached l.distances + length l.level.items
