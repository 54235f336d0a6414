use Rattle.snap_cli.proofs.SingleOwnerTraced.{single_owner_placement, single_owner_tables}
use Rattle.snap_cli.proofs.headline.single_owner_schedules_trace_as_one_switch.Goals as goal

pub returns : goal.returns
returns c =
    let tables = single_owner_tables c.runs_trace_as_one_switch.ensures.schedules in
    record { placed = single_owner_placement c.answers_exactly.ensures c.compiles_exactly.ensures tables; tables = tables }
