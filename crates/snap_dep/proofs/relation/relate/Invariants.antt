use Rattle.std.proofs.Common.{IsTrue}
use Rattle.snap_core.specs.Arrays.{has}
use Rattle.snap_dep.proofs.Rows.{Progress}
use Rattle.snap_dep.proofs.relation.relate.Given as goal

abbrev pub invariant-loop-var : goal.invariant-loop-var
invariant-loop-var l = Progress l.initial.rows l.rows l.var (λ s t. IsTrue (has l.from s) × IsTrue (has l.to t))
