-- By code.
use Rattle.std.proofs.Common.{ap, ◌∙◌}
use Rattle.snap_core.specs.Cells.{cell}
use Rattle.snap_core.proofs.CellLemmas.{cell-hashed}
use Rattle.snap_diagrams.proofs.numbers.Numbers.get.Goals as goal

pub returns : goal.returns
returns c =
    c.copied.ensures ∙ c.get.ensures.value ∙ cell-hashed c.args.code.now c.self.inside.numbers.entries
    ∙ ap (λ m. cell m c.args.code.now) c.self.view_is
