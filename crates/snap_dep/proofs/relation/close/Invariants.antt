use Rattle.std.proofs.Common.{◌↔◌, ℕ}
use Rattle.snap_dep.specs.Relations.{Relates}
use Rattle.snap_dep.proofs.Chains.{Via}
use Rattle.snap_dep.proofs.relation.close.Given as goal

abbrev pub invariant-loop-var : goal.invariant-loop-var
invariant-loop-var l = (s t : ℕ) → Relates l.rows s t ↔ Via (Relates l.initial.rows) l.var s t
