use Rattle.std.proofs.Common.{◌≡◌, length}
use Rattle.snap_tables.specs.Entries.{array_fits}
use Rattle.snap_tables.proofs.entries.is_new_array.Given as goal

abbrev pub invariant-loop-array : goal.invariant-loop-array
invariant-loop-array l = array_fits l.rest (record { name = l.name; at = l.at; rank = l.rank }) ≡ array_fits l.arrays (record { name = l.name; at = l.at; rank = l.rank })

abbrev pub decreases-loop-array : goal.decreases-loop-array
decreases-loop-array l = length l.rest
