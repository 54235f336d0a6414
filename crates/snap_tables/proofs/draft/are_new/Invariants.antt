use Rattle.std.proofs.Common.{◌≡◌, length}
use Rattle.snap_tables.specs.Entries.{are_new}
use Rattle.snap_tables.proofs.draft.are_new.Given as goal

abbrev pub invariant-loop-name : goal.invariant-loop-name
invariant-loop-name l = are_new l.names l.rest ≡ are_new l.names l.more

abbrev pub decreases-loop-name : goal.decreases-loop-name
decreases-loop-name l = length l.rest
