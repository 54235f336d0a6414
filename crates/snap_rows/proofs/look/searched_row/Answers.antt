use Rattle.std.proofs.Common.{rules}
use Rattle.snap_rows.proofs.Places.{no_row}
use Rattle.snap_rows.proofs.look.searched_row.Goals as goal

pub returns-else-stands_at-clause-none : goal.returns-else-stands_at-clause-none
returns-else-stands_at-clause-none c = no_row c.args.rows.now c.requires c.args.at c.args.number c.rows_before-place.result c.rows_before-place.ensures (search rules)
