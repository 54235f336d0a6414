use Rattle.std.proofs.Common.{◌≡◌, ◌≤◌, ◌⊎◌, ℕ, take}
use Rattle.std.specs.List.{Contains}
use Rattle.snap_topology.specs.Tables.{row_by}
use Rattle.snap_topology.proofs.hops.greatest.Given as goal

-- the greatest so far
abbrev pub invariant-loop-distance : goal.invariant-loop-distance
invariant-loop-distance l = record {
  reached : (l.most ≡ 0) ⊎ Contains (row_by l.hops).distances l.most;
  bound : (d : ℕ) → Contains (take l.distance-index (row_by l.hops).distances) d → d ≤ l.most;
}
