use Rattle.snap_rows.proofs.Able.{able}
use Rattle.snap_rows.proofs.progress.steps_make_progress.Goals as goal

pub returns : goal.returns
returns c = able
