use Rattle.snap_refinement.proofs.Once.{changed_blocks_one, changed_reports_one}
use Rattle.snap_refinement.proofs.change_laws.changed_reports_are_one.Goals as goal

pub returns : goal.returns
returns c = record { reports = changed_reports_one; blocks = changed_blocks_one }
