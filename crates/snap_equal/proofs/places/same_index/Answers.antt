-- Atom by atom.
use Rattle.std.proofs.Common.{◌≡◌, ◌<◌, ℕ, get_or, subst, arith}
use Rattle.snap_core.specs.declared.policy.Atom.TheVariants.{Num as Number}
use Rattle.snap_core.specs.Arrays.{value_of}
use Rattle.snap_equal.specs.Told.{IsStop, On}
use Rattle.snap_equal.proofs.Telling.{told_true, told_false, open_more, closed_all}
use Rattle.snap_equal.proofs.Indices.{same_numbers, number_at}
use Rattle.snap_equal.proofs.places.same_index.Goals as goal
use Rattle.snap_equal.proofs.places.same_index.Goals.{in-Ok-true, in-Err-Split}

pub returns-in-Ok-false : goal.returns-in-Ok-false
returns-in-Ok-false c = λ m k i e.
    told_false c.args.ctx.now (λ m k. value_of (get_or c.args.left.now c.loop-i.i (Number 0)) k ≡ value_of (get_or c.args.right.now c.loop-i.i (Number 0)) k) c.in-Ok-false.field-0 c.in-Ok-false.field-0-test c.in-Ok-false.ensures m k i
    (number_at k c.args.left.now c.args.right.now c.loop-i.i (omega arith) (omega arith) e)

pub loop-i-preserved : goal.loop-i-preserved
loop-i-preserved c = elim c.match-same_atoms.branch [
  | in-Ok-true w ↦ rw w.open-is
      (open_more c.args.ctx.now 0 (λ j. On c.args.ctx.now (λ m k. value_of (get_or c.args.left.now j (Number 0)) k ≡ value_of (get_or c.args.right.now j (Number 0)) k)) c.loop-i.i c.loop-i.open c.loop-i.invariant
      (told_true c.args.ctx.now (λ m k. value_of (get_or c.args.left.now c.loop-i.i (Number 0)) k ≡ value_of (get_or c.args.right.now c.loop-i.i (Number 0)) k) w.in-Ok-true.field-0 w.in-Ok-true.field-0-test w.in-Ok-true.ensures))
  | in-Err-Split w ↦ rw w.open-is (subst (IsStop c.args.ctx.now 0) w.in-Err-Split.field-0-is w.in-Err-Split.ensures)
]

pub returns-in-None : goal.returns-in-None
returns-in-None c = λ m k i. same_numbers k c.args.left.now c.args.right.now c.if-left-right.false (λ j l.
    closed_all c.args.ctx.now 0 ((j : ℕ) → j < c.loop-i.i → On c.args.ctx.now (λ m k. value_of (get_or c.args.left.now j (Number 0)) k ≡ value_of (get_or c.args.right.now j (Number 0)) k)) c.loop-i.open c.in-None.is c.loop-i.invariant
    j (omega arith) m k i)
