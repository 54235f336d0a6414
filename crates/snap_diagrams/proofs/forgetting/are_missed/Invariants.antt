-- The components so far.
use Rattle.std.proofs.Common.{◌≡◌, ◌<◌, ℕ, true}
use Rattle.snap_core.specs.Arrays.{has}
use Rattle.snap_context.specs.Classes.{class_of}
use Rattle.snap_diagrams.specs.Forgotten.{IsMissed}
use Rattle.snap_diagrams.proofs.forgetting.are_missed.Given as goal

abbrev pub invariant-loop-comp : goal.invariant-loop-comp
invariant-loop-comp l = (c : ℕ) → c < l.comp → has l.comps c ≡ true → IsMissed l.index (class_of l.ctx.classes c)
