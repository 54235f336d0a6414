use Rattle.snap_cli.proofs.AsOneSwitch.{traced}
use Rattle.snap_cli.proofs.headline.traces_as_one_switch.Goals as goal

pub returns : goal.returns
returns c = traced c.orders_have_one_report.ensures.in_order c.runs_trace_as_one_switch.ensures.each
