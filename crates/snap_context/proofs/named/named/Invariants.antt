-- Those so far name their classes.
use Rattle.snap_context.specs.Known.{AreRenamed}
use Rattle.snap_context.proofs.named.named.Given as goal

abbrev pub invariant-loop-comp : goal.invariant-loop-comp
invariant-loop-comp l = AreRenamed l.fn.classes l.named.items
