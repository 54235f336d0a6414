-- The components so far.
use Rattle.std.proofs.Common.{◌≡◌, ◌<◌, ℕ, true}
use Rattle.snap_core.specs.declared.policy.Atom.TheVariants.{Comp}
use Rattle.snap_core.specs.Arrays.{has}
use Rattle.snap_diagrams.specs.Places.{IsKept}
use Rattle.snap_diagrams.proofs.places.bound_ones.Given as goal

abbrev pub invariant-loop-comp : goal.invariant-loop-comp
invariant-loop-comp l = (c : ℕ) → c < l.comp → has l.comps c ≡ true → IsKept l.ctx.classes l.bound (Comp c)
