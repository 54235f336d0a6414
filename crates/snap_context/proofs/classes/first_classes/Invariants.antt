-- The classes so far are their own roots.
use Rattle.snap_context.specs.View.{AreFirst}
use Rattle.snap_context.proofs.classes.first_classes.Given as goal

abbrev pub invariant-loop-comp : goal.invariant-loop-comp
invariant-loop-comp l = AreFirst l.comp l.classes.items
