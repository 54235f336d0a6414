use Rattle.snap_refinement.proofs.SequentialReport.{sequential_report, plain_report}
use Rattle.snap_refinement.proofs.laws.sequential_runs_report_one_switch.Goals as goal

pub returns : goal.returns
returns c = record { sequential = sequential_report; plain = plain_report }
