use Rattle.std.proofs.Common.{ap, ◌∙◌}
use Rattle.std.proofs.lemmas.List.Sorted.{IsPermutation-map}
use Rattle.snap_core.specs.Cells.{cell, cells_of}
use Rattle.snap_core.proofs.CellMerge.{cell-reordered, IsDistinct-cells_of}
use Rattle.snap_core.proofs.table.Table.reserve.Goals as goal

pub returns-clause-cells : goal.returns-clause-cells
returns-clause-cells c = λ q.
    cell-reordered (cells_of c.self.inside.cells.entries) (cells_of c.reserve.new.self.entries)
    (IsPermutation-map _ c.self.inside.cells.entries c.reserve.new.self.entries c.reserve.ensures.entries.0)
    (IsDistinct-cells_of c.reserve.new.self.entries c.reserve.ensures.unique) q
    ∙ ap (λ a. cell a.0 q) c.self.view_is
