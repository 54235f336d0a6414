use Rattle.snap_dep.specs.Relations.{Relates}
use Rattle.snap_dep.proofs.Rows.{Progress}
use Rattle.snap_dep.proofs.relation.lead_through.Given as goal

abbrev pub invariant-loop-row : goal.invariant-loop-row
invariant-loop-row l = Progress l.initial.rows l.rows l.row-index (λ s t. Relates l.initial.rows s l.var × Relates l.initial.rows l.var t)
