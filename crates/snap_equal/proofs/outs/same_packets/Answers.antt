-- Each makes what the other makes.
use Rattle.std.proofs.Common.{◌≡◌, sym}
use Rattle.snap_core.specs.Tests.{results}
use Rattle.snap_equal.specs.Made.{MakesAll}
use Rattle.snap_equal.proofs.Telling.{told_true, told_false, result_as}
use Rattle.snap_equal.proofs.Making.{same_results, results_make}
use Rattle.snap_equal.proofs.outs.same_packets.Goals as goal

pub returns-then-not-branch : goal.returns-then-not-branch
returns-then-not-branch c = λ m k i e.
    told_false c.args.ctx.now (λ m k. MakesAll c.args.left.now c.args.right.now k) c.in_ok-has_all.field-0 c.if-not-branch.true c.in_ok-has_all.ensures m k i
    (results_make c.args.left.now c.args.right.now k e)

pub returns : goal.returns
returns c =
    result_as c.args.ctx.now 0 (λ m k. MakesAll c.args.right.now c.args.left.now k) (λ m k. results c.args.left.now k ≡ results c.args.right.now k)
    (λ m k i back. same_results c.args.left.now c.args.right.now k
    (told_true c.args.ctx.now (λ m k. MakesAll c.args.left.now c.args.right.now k) c.in_ok-has_all.field-0 c.if-not-branch.false c.in_ok-has_all.ensures m k i) back)
    (λ m k i e. results_make c.args.right.now c.args.left.now k (sym e))
    c.has_all-2.result c.has_all-2.ensures
