use Rattle.std.proofs.Common.{◌≤◌, ◌<◌, ◌+◌, ◌*◌, ◌^◌, ℕ, drop, length, slice_index}
use Rattle.snap_topology.specs.Tables.{distance_of}
use Rattle.snap_placement.specs.Steps.{IsPlan, choices}
use Rattle.snap_placement.proofs.plan.plan_ways.Given as goal

-- the best ways on behind the groups that are left, which cost less than 2^56 a rank
abbrev pub invariant-ranks : goal.invariant-ranks
invariant-ranks l = record {
  some : 1 ≤ l.left;
  left : l.left ≤ length l.order;
  plan : IsPlan (distance_of l.routes) l.trips (drop l.left (choices l.order l.allowed)) l.count l.nexts.items l.costs.items;
  low : (x : ℕ) → x < l.count → slice_index l.costs.items x + l.left * 2 ^ 56 ≤ 65 * 2 ^ 56;
}

abbrev pub decreases-ranks : goal.decreases-ranks
decreases-ranks l = l.left
