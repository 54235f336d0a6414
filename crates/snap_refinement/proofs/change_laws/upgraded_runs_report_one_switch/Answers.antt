use Rattle.snap_refinement.proofs.Report.{upgraded_report}
use Rattle.snap_refinement.proofs.change_laws.upgraded_runs_report_one_switch.Goals as goal

pub returns : goal.returns
returns c = upgraded_report
