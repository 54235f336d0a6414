use Rattle.snap_refinement.proofs.InOrder.{single_owner_report}
use Rattle.snap_refinement.proofs.laws.single_owner_runs_report_in_fork_order.Goals as goal

pub returns : goal.returns
returns c = single_owner_report
