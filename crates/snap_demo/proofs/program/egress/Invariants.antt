use Rattle.snap_demo.specs.Parts.{IsEgress}
use Rattle.snap_demo.proofs.program.egress.Given as goal

abbrev pub invariant-loop-left : goal.invariant-loop-left
invariant-loop-left l = IsEgress l.ports l.left l.rest
