use Rattle.snap_refinement.proofs.SwitchRuns.{one_switch_runs}
use Rattle.snap_refinement.proofs.laws.one_big_switch_runs.Goals as goal

pub returns : goal.returns
returns c = one_switch_runs
