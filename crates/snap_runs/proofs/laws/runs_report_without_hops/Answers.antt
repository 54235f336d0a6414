use Rattle.snap_runs.proofs.WithoutHops.{without_hops}
use Rattle.snap_runs.proofs.laws.runs_report_without_hops.Goals as goal

pub returns : goal.returns
returns c = without_hops
