-- One number more, in the table.
use Rattle.std.proofs.Common.{◌∷◌, [], reverse, ap, ◌∙◌, Some, cond}
use Rattle.std.specs.Str.{bytes_eq}
use Rattle.snap_core.specs.Cells.{cell}
use Rattle.snap_diagrams.specs.Memos.{paired}
use Rattle.snap_diagrams.proofs.Paired.{cell-paired_update, cell-beside_update}
use Rattle.snap_diagrams.proofs.pairs.Pairs.put.Goals as goal

pub returns-in_ok-insert-clause-ok : goal.returns-in_ok-insert-clause-ok
returns-in_ok-insert-clause-ok c = λ q.
    let updates = c.in_ok-insert.ensures.updates in
    let same = bytes_eq (c.args.a ∷ c.args.b ∷ []) q in
    cell-beside_update same c.args.number _ _ (paired (reverse c.self.inside.first.items)) q
    (cell-paired_update (c.args.a, c.args.b) _ _ (Some c.args.number) updates.1 updates.3 q)
    ∙ ap (λ m. cond same (Some c.args.number) (cell m q)) c.self.view_is
