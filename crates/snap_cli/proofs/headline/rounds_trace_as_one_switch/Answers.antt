use Rattle.snap_cli.proofs.AsOneSwitch.{in_rounds}
use Rattle.snap_cli.proofs.RoundsTraced.{rounds_alike, rounds_as_plain}
use Rattle.snap_cli.proofs.headline.rounds_trace_as_one_switch.Goals as goal

pub returns : goal.returns
returns c = record {
  report = in_rounds c.orders_have_one_report.ensures.in_order c.runs_trace_as_one_switch.ensures.by_rounds;
  as_plain = rounds_as_plain c.answers_exactly.ensures c.compiles_exactly.ensures c.rounds_exactly.ensures c.spelled_packets_fit.ensures.fit c.spelled_packets_fit.ensures.whole
      c.runs_in_order_report_one_switch.ensures.rounds c.traces_exactly.ensures c.sequential_runs_report_one_switch.ensures.plain c.has_one_listing.ensures;
  alike = rounds_alike c.answers_exactly.ensures;
}
