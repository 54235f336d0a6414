use Rattle.snap_dep.specs.Relations.{Relates, ListsTo}
use Rattle.snap_dep.proofs.pairs.add_from.Given as goal

abbrev pub invariant-loop-to : goal.invariant-loop-to
invariant-loop-to l = ListsTo (Relates l.rows) (l.from, l.to) l.found.items
