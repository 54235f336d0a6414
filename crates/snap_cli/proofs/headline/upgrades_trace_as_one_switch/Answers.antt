use Rattle.snap_cli.proofs.ChangesTraced.{upgrades_as_one_switch}
use Rattle.snap_cli.proofs.headline.upgrades_trace_as_one_switch.Goals as goal

pub returns : goal.returns
returns c =
    upgrades_as_one_switch c.answers_exactly.ensures c.compiles_exactly.ensures c.changes_exactly.ensures c.spelled_packets_fit.ensures.fit c.said_changes_rise.ensures
    c.turns_report_without_hops.ensures c.upgraded_runs_report_one_switch.ensures c.upgraded_runs_are_short.ensures
