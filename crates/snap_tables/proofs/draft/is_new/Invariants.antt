use Rattle.std.proofs.Common.{◌≡◌, length}
use Rattle.snap_tables.specs.Entries.{is_new}
use Rattle.snap_tables.proofs.draft.is_new.Given as goal

abbrev pub invariant-loop-other : goal.invariant-loop-other
invariant-loop-other l = is_new l.rest l.name ≡ is_new l.names l.name

abbrev pub decreases-loop-other : goal.decreases-loop-other
decreases-loop-other l = length l.rest
