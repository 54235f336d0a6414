-- Atom by atom.
use Rattle.std.proofs.Common.{sym, ◌∙◌}
use Rattle.snap_diagrams.proofs.Compared.{shorter}
use Rattle.snap_diagrams.proofs.order.+compare_indices.Goals as goal

pub returns-else-is_empty : goal.returns-else-is_empty
returns-else-is_empty t c = λ s t'. shorter _ _ s t' c.in-None.ensures.cases (sym c.is_empty.ensures ∙ c.if-is_empty.false)
