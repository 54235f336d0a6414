use Rattle.std.proofs.Common.{length, ◌<◌}
use Rattle.std.specs.Prelude.{All}
use Rattle.snap_core.specs.declared.policy.Pol.{Pol}
use Rattle.snap_dep.specs.Dependencies.{Reaches, UsesBelow}
use Rattle.snap_dep.specs.Relations.{IsRelation}
use Rattle.snap_dep.proofs.OrderLemmas.{SoFar}
use Rattle.snap_dep.proofs.order.by_rank.Given as goal

abbrev pub invariant-loop-next : goal.invariant-loop-next
invariant-loop-next l = All (λ g. g < length l.rows) l.order.items × ((p : Pol) → UsesBelow (length l.rows) p → IsRelation (Reaches p) l.rows → SoFar p (length l.rows) l.left l.order.items)

abbrev pub decreases-loop-next : goal.decreases-loop-next
decreases-loop-next l = l.left
