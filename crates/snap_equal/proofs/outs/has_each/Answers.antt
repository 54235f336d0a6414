-- Out by out.
use Rattle.std.proofs.Common.{◌≡◌, ℕ, [], List, get_or, sym, ◌∙◌, subst, arith, below_more}
use Rattle.std.proofs.lemmas.List.{get_or_default}
use Rattle.snap_core.specs.declared.policy.Atom.{Atom}
use Rattle.snap_core.specs.Tests.{after_out}
use Rattle.snap_equal.specs.Made.{Makes}
use Rattle.snap_equal.specs.Told.{On}
use Rattle.snap_equal.proofs.Telling.{told_true, told_false}
use Rattle.snap_equal.proofs.outs.has_each.Goals as goal
use Rattle.snap_equal.proofs.outs.has_each.Goals.{After-out-item}

item : (c : After-out-item) (d : List (ℕ × Atom)) → c.out-item.result ≡ get_or c.args.outs.now c.loop-out.out-index d
item c d = c.out-item.is ∙ get_or_default c.args.outs.now c.loop-out.out-index c.out-item.result d c.loop-out-test.true

pub returns-then-not-branch : goal.returns-then-not-branch
returns-then-not-branch c = λ m k i all.
    told_false c.args.ctx.now (λ m k. Makes c.args.others.now k (after_out c.out-item.result k)) c.in_ok-has_out.field-0 c.if-not-branch.true c.in_ok-has_out.ensures m k i
    (subst (λ o. Makes c.args.others.now k (after_out o k)) (sym (item (goal.at.returns-then-not-branch c).After-out-item [])) (all c.loop-out.out-index [] c.loop-out-test.true))

pub loop-out-preserved : goal.loop-out-preserved
loop-out-preserved c =
    below_more (λ j. On c.args.ctx.now (λ m k. Makes c.args.others.now k (after_out (get_or c.args.outs.now j []) k))) c.loop-out.out-index c.loop-out.invariant
    (λ m k i. subst (λ o. Makes c.args.others.now k (after_out o k)) (item (goal.at.loop-out-preserved c).After-out-item [])
    (told_true c.args.ctx.now (λ m k. Makes c.args.others.now k (after_out c.out-item.result k)) c.in_ok-has_out.field-0 c.if-not-branch.false c.in_ok-has_out.ensures m k i))

pub returns : goal.returns
returns c = λ m k i j d l.
    subst (λ o. Makes c.args.others.now k (after_out o k)) (get_or_default c.args.outs.now j [] d l)
    (c.loop-out.invariant j (omega (arith, l, c.loop-out-test.false)) m k i)
