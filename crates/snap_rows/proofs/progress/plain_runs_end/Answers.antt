use Rattle.snap_rows.proofs.Ending.{plain_runs_end}
use Rattle.snap_rows.proofs.progress.plain_runs_end.Goals as goal

pub returns : goal.returns
returns c = plain_runs_end
