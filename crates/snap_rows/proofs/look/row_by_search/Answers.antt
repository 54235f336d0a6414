use Rattle.snap_rows.specs.Bodies.{lent}
use Rattle.snap_rows.proofs.Places.{placed_row}
use Rattle.snap_rows.proofs.look.row_by_search.Goals as goal

pub returns-in-Some : goal.returns-in-Some
returns-in-Some c = placed_row c.args.rows.now c.requires c.args.at c.args.number c.in-Some.place (lent c.at.result) c.in-Some.ensures.some c.at.ensures
