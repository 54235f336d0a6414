use Rattle.std.proofs.Common.{ap, sym, ◌∙◌}
use Rattle.snap_core.specs.Cells.{cell, either}
use Rattle.snap_core.proofs.Beside.{cell-beside}
use Rattle.snap_core.proofs.array.Array.get.Goals as goal

pub returns-in-Some : goal.returns-in-Some
returns-in-Some c =
    let ix = c.args.index.now in let held = c.self.inside in
    ap (λ o. either o (cell held.crowded ix)) c.in-Some.ensures
    ∙ sym (cell-beside held.table.0 held.crowded ix)
    ∙ ap (λ v. cell v.0 ix) c.self.view_is

pub returns-in-None : goal.returns-in-None
returns-in-None c =
    let ix = c.args.index.now in let held = c.self.inside in
    c.get-in-None.ensures
    ∙ ap (λ o. either o (cell held.crowded ix)) c.in-None.ensures
    ∙ sym (cell-beside held.table.0 held.crowded ix)
    ∙ ap (λ v. cell v.0 ix) c.self.view_is
