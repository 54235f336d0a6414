use Rattle.std.specs.BTreeMap.{btree_map_len}
use Rattle.snap_rows.specs.Standing.{IsGrown}
use Rattle.snap_rows.proofs.rules.alone.is_single_owner_one.Given as goal

abbrev pub invariant-loop-number : goal.invariant-loop-number
invariant-loop-number l = IsGrown l.tables l.rest l.known

abbrev pub decreases-loop-number : goal.decreases-loop-number
decreases-loop-number l = btree_map_len l.rest
