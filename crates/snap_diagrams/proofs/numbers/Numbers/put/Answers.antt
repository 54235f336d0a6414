-- One number more.
use Rattle.std.proofs.Common.{ap, ◌∙◌, Some, cond}
use Rattle.std.specs.Str.{bytes_eq}
use Rattle.snap_core.specs.Cells.{cell}
use Rattle.snap_core.proofs.CellLemmas.{cell-hashed_update}
use Rattle.snap_diagrams.proofs.numbers.Numbers.put.Goals as goal

pub returns-clause-ok : goal.returns-clause-ok
returns-clause-ok c = λ q.
    let updates = c.in_ok-insert.ensures.updates in
    cell-hashed_update c.args.code.items _ _ (Some c.args.number) updates.1 updates.3 q
    ∙ ap (λ m. cond (bytes_eq c.args.code.items q) (Some c.args.number) (cell m q)) c.self.view_is
