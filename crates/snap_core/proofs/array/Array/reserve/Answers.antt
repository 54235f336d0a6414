use Rattle.std.proofs.Common.{refl, ap, ◌∙◌}
use Rattle.std.specs.Prelude.{unwrap_or}
use Rattle.snap_core.specs.Cells.{cell}
use Rattle.snap_core.proofs.Beside.{beside-same}
use Rattle.snap_core.proofs.array.Array.reserve.Goals as goal

pub returns-clause-numbers : goal.returns-clause-numbers
returns-clause-numbers c = λ q.
    ap (λ o. unwrap_or o 0)
    (beside-same c.self.inside.table.0 c.reserve.new.self.0 c.self.inside.crowded c.self.inside.crowded c.reserve.ensures.cells (λ p. refl) q
    ∙ ap (λ a. cell a.0 q) c.self.view_is)
    ∙ c.loop-index.invariant q
