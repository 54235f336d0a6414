use Rattle.std.proofs.Common.{Some, ap, ◌∙◌}
use Rattle.snap_rows.proofs.Plans.{last_outs_fit}
use Rattle.snap_rows.proofs.handle.fork.Goals as goal

pub spread_out-requires-clause-outs : goal.spread_out-requires-clause-outs
spread_out-requires-clause-outs c = last_outs_fit c.args.tables.now c.tables-known.ensures.form c.args.at c.args.leaf c.last_outs-outs.ensures.0 c.last_outs-outs.result.now (c.row_there-row.ensures.row ∙ ap Some c.last_outs-outs.ensures.1)
