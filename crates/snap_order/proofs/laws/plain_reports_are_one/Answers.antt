use Rattle.snap_order.proofs.OneRun.{leads_one, plain_blocks_one, plain_reports_one}
use Rattle.snap_order.proofs.laws.plain_reports_are_one.Goals as goal

pub returns : goal.returns
returns c = record { steps = leads_one; reports = plain_reports_one; blocks = plain_blocks_one }
