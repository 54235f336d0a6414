use Rattle.std.proofs.Common.{◌≡◌, ◌++◌, ℕ, Some, drop, length, map}
use Rattle.snap_topology.proofs.rows.settle.Given as goal

-- the distances so far are known
abbrev pub invariant-loop-switch : goal.invariant-loop-switch
invariant-loop-switch l = record {
  count : length l.known.items ≡ l.switch;
  all : map (λ (d : ℕ). Some d) l.known.items ++ drop l.switch l.distances ≡ l.distances;
}
