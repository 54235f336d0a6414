use Rattle.std.proofs.Common.{sym, ◌∙◌}
use Rattle.snap_core.specs.Cells.{arrays_of}
use Rattle.snap_rows.specs.Handles.{cut}
use Rattle.std.proofs.lemmas.Option.{same_Some}
use Rattle.snap_rows.proofs.Rows.{nodes}
use Rattle.snap_rows.proofs.Visited.{visit_end}
use Rattle.snap_rows.proofs.Plans.{end_two}
use Rattle.snap_rows.proofs.visit.visit_from.Goals as goal

pub last_updates-requires : goal.last_updates-requires
last_updates-requires c =
    let t = c.args.tables.now in
    let k = c.args.packet.now in
    let m = arrays_of c.args.store.now in
    let valid = c.tables-known.ensures.valid in
    let form = c.tables-known.ensures.form in
    let end = visit_end t valid form c.requires.version (nodes t form) c.args.at k c.args.rank m c.args.node c.in_ok-number.number c.requires.home.0 c.requires.home.1 c.requires.home.2 c.in_ok-number.ensures.follows in
    let last = end_two t valid form c.requires.version c.args.at k _ (cut t c.args.rank m) c.in_ok-number.number c.in_ok-leaf.field-0-0 end.0 end.1 end.2 c.in_ok-leaf.ensures.follows in
    (last.0, last.1, same_Some _ _ (sym c.in_ok-leaf.ensures.row ∙ last.2))
