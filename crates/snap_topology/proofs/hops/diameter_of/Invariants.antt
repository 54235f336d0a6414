use Rattle.std.proofs.Common.{◌≡◌, ◌≤◌, ◌<◌, ◌⊎◌, ℕ}
use Rattle.std.specs.List.{Contains}
use Rattle.snap_topology.specs.Hops.{HasDistance}
use Rattle.snap_topology.specs.Tables.{row_in}
use Rattle.snap_topology.proofs.hops.diameter_of.Given as goal

-- the greatest of the rows so far
abbrev pub invariant-loop-row : goal.invariant-loop-row
invariant-loop-row l = record {
  reached : (l.most ≡ 0) ⊎ HasDistance l.rows l.most;
  bound : (target d : ℕ) → target < l.row-index → Contains (row_in l.rows target).distances d → d ≤ l.most;
}
