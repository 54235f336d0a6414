-- One array more, or none.
use Rattle.std.proofs.Common.{inl, inr, sym, ◌∙◌}
use Rattle.snap_context.proofs.settled.settled.Goals.{then-is_in+then-not-is_in+then-is_settled, else-is_in}
use Rattle.snap_context.proofs.settled.settled.Goals as goal

pub loop-var-preserved : goal.loop-var-preserved
loop-var-preserved c = λ a h. elim c.if-is_in.branch [
  | then-is_in+then-not-is_in+then-is_settled w ↦ elim (w.with_array-set.ensures a (rw w.set-is at h)) [
    | inl o ↦ c.loop-var.invariant a o
    | inr e ↦ rw e (c.loop-var-test.true, (sym w.is_in-then-is_in.ensures ∙ w.if-not-is_in.true), w.is_settled.ensures w.if-is_settled.true)
  ]
  | else-is_in w ↦ c.loop-var.invariant a (rw w.set-is at h)
]
