use Rattle.snap_rows.proofs.Lighter.{lighter}
use Rattle.snap_rows.proofs.progress.each_step_is_lighter.Goals as goal

pub returns : goal.returns
returns c = lighter
