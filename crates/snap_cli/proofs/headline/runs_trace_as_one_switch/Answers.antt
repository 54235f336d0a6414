use Rattle.snap_cli.proofs.RunTraced.{plain_traces, round_traces, schedule_traces, turn_traces}
use Rattle.snap_cli.proofs.headline.runs_trace_as_one_switch.Goals as goal

pub returns : goal.returns
returns c =
    let without = c.runs_report_without_hops.ensures in
    let in_order = c.orders_have_one_report.ensures.is_in_order in
    let exactly = c.answers_exactly.ensures in
    let compiles = c.compiles_exactly.ensures in
    let fit = c.spelled_packets_fit.ensures.fit in
    let whole = c.spelled_packets_fit.ensures.whole in
    let keeps = c.sequential_schedules_run_sequentially.ensures.order in
    let turns = c.runs_in_order_report_one_switch.ensures in
    let short = c.runs_in_order_are_short.ensures in
    record {
      each = plain_traces without in_order exactly compiles fit whole c.traces_exactly.ensures c.sequential_runs_report_one_switch.ensures.plain c.runs_are_short.ensures.plain;
      schedules = schedule_traces without in_order exactly compiles fit whole keeps c.sequential_schedules_run_sequentially.ensures.sequential c.sequential_runs_report_one_switch.ensures.sequential c.single_owner_runs_report_in_fork_order.ensures c.schedules_exactly.ensures c.runs_are_short.ensures.all;
      turns = turn_traces without in_order exactly compiles fit whole turns.plain turns.schedules keeps short.all short.plain c.turns_exactly.ensures;
      by_rounds = round_traces without in_order exactly compiles fit whole c.rounds_exactly.ensures turns.rounds c.rounds_are_deterministic.ensures.runs short.all;
    }
