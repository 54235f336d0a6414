-- The classes so far agree outside of the set so far.
use Rattle.std.proofs.Common.{◌≡◌, ◌<◌, ℕ, false}
use Rattle.snap_core.specs.Arrays.{has}
use Rattle.snap_context.specs.Classes.{class_of}
use Rattle.snap_context.proofs.classes.changed.Given as goal

abbrev pub invariant-loop-comp : goal.invariant-loop-comp
invariant-loop-comp l = (c : ℕ) → c < l.comp → has l.set c ≡ false → class_of l.first c ≡ class_of l.classes c
