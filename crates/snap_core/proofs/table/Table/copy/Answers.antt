use Rattle.std.proofs.Common.{ap, ◌∙◌, rules}
use Rattle.std.proofs.lemmas.List.Elements.{same_from_all_zip}
use Rattle.snap_core.proofs.CellLemmas.{cells_of-clones}
use Rattle.snap_core.proofs.table.Table.copy.Goals as goal

pub returns : goal.returns
returns c =
    cells_of-clones _ _ c.self.inside.cells.entries c.in_ok-cells.cells.entries
    (λ v w h. same_from_all_zip _ v.items w.items h.0 (λ x y r. search rules)) (λ x y h. search rules) c.in_ok-cells.ensures.cases
    ∙ ap (λ v. v.0) c.self.view_is
