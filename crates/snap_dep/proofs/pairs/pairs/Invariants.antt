use Rattle.snap_dep.specs.Relations.{Relates, ListsTo}
use Rattle.snap_dep.proofs.pairs.pairs.Given as goal

abbrev pub invariant-loop-from : goal.invariant-loop-from
invariant-loop-from l = ListsTo (Relates l.rows) (l.from, 0) l.found.items
