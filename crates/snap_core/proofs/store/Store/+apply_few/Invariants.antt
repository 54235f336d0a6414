-- One update less.
use Rattle.std.proofs.Common.{length}
use Rattle.snap_core.proofs.store.Store.+apply_few.Given as goal

abbrev pub decreases-apply_few : goal.decreases-apply_few
decreases-apply_few l = length l.changes.now
