use Rattle.std.proofs.Common.{ap, ◌∙◌, Some, cond, rules}
use Rattle.std.specs.Str.{bytes_eq}
use Rattle.snap_core.specs.Cells.{cell, cells_of, written}
use Rattle.snap_core.proofs.CellLemmas.{cell-ordered, cell-ordered_update}
use Rattle.snap_core.proofs.patch.Patch.write.Goals as goal

pub returns-in_err-cell-clause-before : goal.returns-in_err-cell-clause-before
returns-in_err-cell-clause-before c =
    c.from_residual.ensures ∙ c.in_err-cell.ensures.value ∙ cell-ordered c.args.index.now c.self.inside.cells.entries
    ∙ ap (λ a. cell a c.args.index.now) c.self.view_is

pub returns-clause-before : goal.returns-clause-before
returns-clause-before c =
    c.in_ok-cell.ensures.value ∙ cell-ordered c.args.index.now c.self.inside.cells.entries ∙ ap (λ a. cell a c.args.index.now) c.self.view_is

pub returns-clause-cells : goal.returns-clause-cells
returns-clause-cells c = λ q.
    let ix = c.args.index.now in let before = c.self.inside.cells in let number = c.number.result in
    cell-ordered_update ix before (c.get_mut.follows.lender number) (Some number) ((c.get_mut.follows.holds number).3 (search rules)) q
    ∙ ap (λ v. cond (bytes_eq ix q) (Some v) (cell (cells_of before.entries) q)) c.number.ensures
    ∙ ap (λ a. cond (bytes_eq ix q) (Some (written c.args.write c.in_ok-cell.cell.now)) (cell a q)) c.self.view_is
