-- The diagram so far.
use Rattle.snap_diagrams.specs.Picks.{IsWellFormedDiagram}
use Rattle.snap_diagram_tests.proofs.of_diagrams.chain.Given as goal

abbrev pub invariant-loop-at : goal.invariant-loop-at
invariant-loop-at l = IsWellFormedDiagram l.groups l.ctx l.nodes l.d
