use Rattle.snap_rows.proofs.Lighter.{steps_fall}
use Rattle.snap_rows.proofs.progress.steps_fall.Goals as goal

pub returns : goal.returns
returns c = steps_fall
