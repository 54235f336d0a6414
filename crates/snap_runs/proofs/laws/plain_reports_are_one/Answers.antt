use Rattle.snap_runs.proofs.OneRun.{plain_one}
use Rattle.snap_runs.proofs.PlainReport.{plain_reports_one, plain_blocks_one}
use Rattle.snap_runs.proofs.laws.plain_reports_are_one.Goals as goal

pub returns : goal.returns
returns c = record { runs = plain_one; reports = plain_reports_one; blocks = plain_blocks_one }
