-- One component more, in the set or with the class that it had.
use Rattle.std.proofs.Common.{◌≡◌, ℕ, sym, ◌∙◌, arith}
use Rattle.snap_context.specs.Classes.{class_of}
use Rattle.snap_context.proofs.Staying.{next_changed, next_same}
use Rattle.snap_context.proofs.classes.changed.Goals.{then-not-same_term, else-not-same_term}
use Rattle.snap_context.proofs.classes.changed.Goals as goal

pub loop-comp-preserved : goal.loop-comp-preserved
loop-comp-preserved c = elim c.if-not-same_term.branch [
  | then-not-same_term w ↦ rw w.set-is (next_changed (λ (d : ℕ). class_of c.args.first.now d ≡ class_of c.args.classes.now d) c.loop-comp.comp c.loop-comp.set w.bit-set.result (omega (arith, c.requires.few)) w.bit-set.ensures c.loop-comp.invariant)
  | else-not-same_term w ↦ rw w.set-is (next_same (λ (d : ℕ). class_of c.args.first.now d ≡ class_of c.args.classes.now d) c.loop-comp.comp c.loop-comp.set (sym c.class_at.ensures ∙ (c.same_term.ensures.0 w.if-not-same_term.false ∙ c.class_at-in-loop-comp.ensures)) c.loop-comp.invariant)
]
