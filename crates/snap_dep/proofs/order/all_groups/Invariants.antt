use Rattle.std.proofs.Common.{ℕ, ◌<◌, ◌↔◌, length, IsTrue}
use Rattle.snap_core.specs.declared.policy.Pol.{Pol}
use Rattle.snap_core.specs.Arrays.{has}
use Rattle.snap_dep.specs.Dependencies.{Reaches}
use Rattle.snap_dep.specs.Ranks.{IsGroup}
use Rattle.snap_dep.specs.Relations.{IsRelation}
use Rattle.snap_dep.proofs.order.all_groups.Given as goal

abbrev pub invariant-loop-var : goal.invariant-loop-var
invariant-loop-var l = (p : Pol) → IsRelation (Reaches p) l.rows → (v : ℕ) → IsTrue (has l.groups v) ↔ ((v < l.var) × IsGroup p (length l.rows) v)
