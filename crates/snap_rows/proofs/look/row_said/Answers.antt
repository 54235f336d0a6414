use Rattle.std.proofs.Common.{◌≡◌, Some, ap, sym, ◌∙◌}
use Rattle.std.specs.Prelude.{option_map, slice_get}
use Rattle.snap_rows.specs.Bodies.{lent}
use Rattle.snap_rows.proofs.Places.{row_here}
use Rattle.snap_rows.proofs.look.row_said.Goals as goal

pub returns-then-entry-number : goal.returns-then-entry-number
returns-then-entry-number c =
    let rows = c.args.rows.now in
    let entry = lent c.in-Some.entry in
    let is : slice_get rows c.args.place ≡ Some entry = sym c.get.ensures ∙ ap (option_map lent) c.in-Some.is in
    row_here rows c.requires c.args.at c.args.number c.args.place entry is c.if-entry-at.true c.if-entry-number.true
