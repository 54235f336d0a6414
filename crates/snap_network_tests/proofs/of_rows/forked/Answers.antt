use Rattle.std.proofs.Common.{◌∙◌, sym}
use Rattle.snap_rows.proofs.Bounded.{port_below, port_home}
use Rattle.snap_network_tests.proofs.of_rows.forked.Goals as goal

pub handle-requires-clause-at : goal.handle-requires-clause-at
handle-requires-clause-at c = port_below c.args.tables.now c.tables-known.ensures.form c.args.port c.in-Some.at (sym c.port_at.ensures ∙ c.in-Some.is)

pub handle-requires-clause-home : goal.handle-requires-clause-home
handle-requires-clause-home c = port_home c.args.tables.now c.tables-known.ensures.valid c.args.port c.in-Some.at (sym c.port_at.ensures ∙ c.in-Some.is)
