use Rattle.snap_cli.proofs.AsOneSwitch.{turned}
use Rattle.snap_cli.proofs.InOrderTraced.{turns_as_plain}
use Rattle.snap_cli.proofs.headline.turns_trace_as_one_switch.Goals as goal

pub returns : goal.returns
returns c = record {
  report = turned c.orders_have_one_report.ensures.in_order c.runs_trace_as_one_switch.ensures.turns;
  as_plain = turns_as_plain c.runs_in_order_report_one_switch.ensures.plain c.runs_in_order_report_one_switch.ensures.schedules
      c.answers_exactly.ensures c.compiles_exactly.ensures c.turns_exactly.ensures c.spelled_packets_fit.ensures.fit c.spelled_packets_fit.ensures.whole
      c.traces_exactly.ensures c.sequential_runs_report_one_switch.ensures.plain c.has_one_listing.ensures;
}
