use Rattle.snap_refinement.proofs.Report.{upgraded_short}
use Rattle.snap_refinement.proofs.change_laws.upgraded_runs_are_short.Goals as goal

pub returns : goal.returns
returns c = upgraded_short
