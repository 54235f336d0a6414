use Rattle.snap_rows.proofs.OwnReads.{reads_own}
use Rattle.snap_rows.proofs.laws.reads_own_alone.Goals as goal

pub returns : goal.returns
returns c = reads_own
