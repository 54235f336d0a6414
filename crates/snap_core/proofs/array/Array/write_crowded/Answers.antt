use Rattle.std.proofs.Common.{ap, sym, ◌∙◌, Some, cond}
use Rattle.std.specs.Prelude.{◌&&◌, is_some}
use Rattle.std.specs.Str.{bytes_eq}
use Rattle.snap_core.specs.Cells.{cell}
use Rattle.snap_core.proofs.Beside.{beside-second_if}
use Rattle.snap_core.proofs.array.Array.write_crowded.Goals as goal

pub returns-in-None-clause-cells : goal.returns-in-None-clause-cells
returns-in-None-clause-cells c = λ q.
    beside-second_if (is_some c.write.result) c.args.index.now c.args.value c.self.inside.table.0 c.self.inside.crowded c.write.new.self (sym c.in-None.ensures) c.write.ensures.cells q
    ∙ ap (λ a. cond (is_some c.write.result && bytes_eq c.args.index.now q) (Some c.args.value) (cell a.0 q)) c.self.view_is
    ∙ ap (λ b. cond (b && bytes_eq c.args.index.now q) (Some c.args.value) (cell c.args.self.now.0 q)) (sym c.is_some.ensures)
