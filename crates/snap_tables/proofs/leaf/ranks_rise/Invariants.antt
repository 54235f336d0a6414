use Rattle.std.proofs.Common.{◌≡◌, length}
use Rattle.snap_tables.specs.Rows.{rises_from}
use Rattle.snap_tables.proofs.leaf.ranks_rise.Given as goal

abbrev pub invariant-loop-next : goal.invariant-loop-next
invariant-loop-next l = rises_from l.arrays l.last l.rest ≡ rises_from l.arrays 0 l.updates

abbrev pub decreases-loop-next : goal.decreases-loop-next
decreases-loop-next l = length l.rest
