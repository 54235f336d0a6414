use Rattle.snap_refinement.proofs.OneProgram.{changed_report}
use Rattle.snap_refinement.proofs.change_laws.changed_runs_report_one_switch.Goals as goal

pub returns : goal.returns
returns c = changed_report
