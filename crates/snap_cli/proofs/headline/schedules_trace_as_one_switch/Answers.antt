use Rattle.snap_cli.proofs.AsOneSwitch.{scheduled}
use Rattle.snap_cli.proofs.headline.schedules_trace_as_one_switch.Goals as goal

pub returns : goal.returns
returns c = scheduled c.orders_have_one_report.ensures.in_order c.runs_trace_as_one_switch.ensures.schedules
