use Rattle.std.proofs.Common.{ℕ, ◌<◌, get_or}
use Rattle.snap_core.specs.declared.policy.Pol.{Pol}
use Rattle.snap_dep.specs.Dependencies.{Reaches, Tied}
use Rattle.snap_dep.specs.Relations.{IsRelation}
use Rattle.snap_dep.proofs.order.rank_in.Given as goal

abbrev pub invariant-loop-rank : goal.invariant-loop-rank
invariant-loop-rank l = (p : Pol) → IsRelation (Reaches p) l.rows → (i : ℕ) → i < l.rank → ¬ (Tied p (get_or l.order i 0) l.var)
