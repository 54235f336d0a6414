use Rattle.std.proofs.Common.{ap, ◌∙◌, Some, cond}
use Rattle.std.specs.Str.{bytes_eq}
use Rattle.snap_core.specs.Cells.{cell}
use Rattle.snap_core.proofs.CellLemmas.{cell-hashed_update}
use Rattle.snap_core.proofs.table.Table.put.Goals as goal

pub returns-then-is_none-clause-ok : goal.returns-then-is_none-clause-ok
returns-then-is_none-clause-ok c = λ q.
    let updates = c.in_ok-before.ensures.updates in
    cell-hashed_update c.args.index.items _ _ (Some c.args.value) updates.1 updates.3 q
    ∙ ap (λ a. cond (bytes_eq c.args.index.items q) (Some c.args.value) (cell a.0 q)) c.self.view_is

pub returns-else-is_none-clause-ok : goal.returns-else-is_none-clause-ok
returns-else-is_none-clause-ok c = λ q.
    let updates = c.in_ok-before.ensures.updates in
    cell-hashed_update c.args.index.items _ _ (Some c.args.value) updates.1 updates.3 q
    ∙ ap (λ a. cond (bytes_eq c.args.index.items q) (Some c.args.value) (cell a.0 q)) c.self.view_is
