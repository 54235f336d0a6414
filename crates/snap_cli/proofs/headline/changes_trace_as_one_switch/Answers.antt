use Rattle.snap_cli.proofs.OneSource.{one_source}
use Rattle.snap_cli.proofs.headline.changes_trace_as_one_switch.Goals as goal

pub returns : goal.returns
returns c = one_source c.spells_one_program.ensures c.upgrades_trace_as_one_switch.ensures
