use Rattle.std.proofs.Common.{ℕ, ◌<◌}
use Rattle.snap_core.specs.declared.policy.Pol.{Pol}
use Rattle.snap_dep.specs.Dependencies.{Reaches, Tied}
use Rattle.snap_dep.specs.Relations.{IsRelation}
use Rattle.snap_dep.proofs.order.is_group.Given as goal

abbrev pub invariant-loop-other : goal.invariant-loop-other
invariant-loop-other l = (p : Pol) → IsRelation (Reaches p) l.rows → (v : ℕ) → v < l.other → ¬ (Tied p v l.var)
