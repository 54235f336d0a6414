use Rattle.std.proofs.Common.{ap, ◌∙◌}
use Rattle.snap_core.specs.Cells.{cell}
use Rattle.snap_core.proofs.CellLemmas.{cell-hashed}
use Rattle.snap_core.proofs.table.Table.get.Goals as goal

pub returns : goal.returns
returns c =
    c.copied.ensures ∙ c.get.ensures.value ∙ cell-hashed c.args.index.now c.self.inside.cells.entries
    ∙ ap (λ v. cell v.0 c.args.index.now) c.self.view_is
