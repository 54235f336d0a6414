use Rattle.snap_runs.specs.declared.frames.Frames.TheVariants.{Plain}
use Rattle.snap_runs.proofs.OneReport.{blocks_one, reports_one}
use Rattle.snap_runs.proofs.laws.run_reports_are_one.Goals as goal

pub returns : goal.returns
returns c = record { reports = reports_one Plain; blocks = blocks_one Plain }
