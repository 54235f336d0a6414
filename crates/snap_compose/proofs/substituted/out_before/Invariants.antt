-- The components so far.
use Rattle.snap_compose.specs.PulledBack.{IsComposing}
use Rattle.snap_compose.proofs.substituted.out_before.Given as goal

abbrev pub invariant-loop-comp : goal.invariant-loop-comp
invariant-loop-comp l = IsComposing l.comps l.out l.later l.parts.items l.comp
