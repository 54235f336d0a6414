-- The components so far.
use Rattle.std.proofs.Common.{◌≡◌, ◌<◌, ℕ, true}
use Rattle.snap_core.specs.Arrays.{has}
use Rattle.snap_context.specs.Classes.{class_of}
use Rattle.snap_context.specs.Known.{within}
use Rattle.snap_context.proofs.rooted.classes_within.Given as goal

abbrev pub invariant-loop-comp : goal.invariant-loop-comp
invariant-loop-comp l = (c : ℕ) → c < l.comp → has l.comps c ≡ true → within l.roots (class_of l.classes c) ≡ true
