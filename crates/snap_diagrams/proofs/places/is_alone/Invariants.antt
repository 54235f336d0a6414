-- The components so far.
use Rattle.std.proofs.Common.{◌≡◌, ◌<◌, ℕ, true}
use Rattle.snap_core.specs.declared.policy.Atom.TheVariants.{Comp}
use Rattle.snap_core.specs.Arrays.{has}
use Rattle.snap_context.specs.Classes.{atom_class, class_of}
use Rattle.snap_diagrams.proofs.places.is_alone.Given as goal

abbrev pub invariant-loop-comp : goal.invariant-loop-comp
invariant-loop-comp l = (d : ℕ) → d < l.comp → has l.bound d ≡ true → class_of l.ctx.classes d ≡ atom_class l.ctx.classes l.atom → l.atom ≡ Comp d
