use Rattle.std.proofs.Common.{◌≡◌, ◌<◌, ℕ, get_or, length}
use Rattle.snap_core.specs.declared.policy.Pol.{Pol}
use Rattle.snap_dep.specs.Dependencies.{Reaches, Tied, UsesBelow}
use Rattle.snap_dep.specs.Ranks.{IsRank}
use Rattle.snap_dep.specs.Relations.{IsRelation}
use Rattle.snap_dep.proofs.order.ranks.Given as goal

abbrev pub invariant-loop-var : goal.invariant-loop-var
invariant-loop-var l =
    (length l.ranks.items ≡ l.var)
    × ((p : Pol) → UsesBelow (length l.rows) p → IsRelation (Reaches p) l.rows → IsRank p (length l.rows) l.order
    → (v : ℕ) → v < l.var → (get_or l.ranks.items v 0 < length l.order) × Tied p (get_or l.order (get_or l.ranks.items v 0) 0) v)
