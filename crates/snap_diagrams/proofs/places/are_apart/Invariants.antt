-- The components so far.
use Rattle.std.proofs.Common.{◌<◌, ℕ}
use Rattle.snap_diagrams.specs.Places.{IsApart}
use Rattle.snap_diagrams.proofs.places.are_apart.Given as goal

abbrev pub invariant-loop-comp : goal.invariant-loop-comp
invariant-loop-comp l = (c : ℕ) → c < l.comp → IsApart l.ctx.classes l.comps l.bound l.spelling c
