-- One answer of a test.
use Rattle.std.proofs.Common.{ℕ, List, subst}
use Rattle.std.proofs.lemmas.Result.{IfOk-weaker}
use Rattle.snap_core.specs.Arrays.{Arrays}
use Rattle.snap_context.specs.Answers.{IsAssumed}
use Rattle.snap_equal.specs.declared.comparing.Compared.TheVariants.{Same}
use Rattle.snap_equal.specs.Leaves.{LeavesDoSame}
use Rattle.snap_equal.proofs.Answering.{nowhere, under_more}
use Rattle.snap_equal.proofs.sure.+leaves_same.Goals as goal

pub leaves_same_where-returns-in-Impossible : goal.leaves_same_where-returns-in-Impossible
leaves_same_where-returns-in-Impossible t c = λ e.
    nowhere c.args.ctx.now c.args.arrays c.args.test.now c.args.yes (LeavesDoSame c.args.left.now c.args.right.now) (subst (IsAssumed c.args.ctx.now c.args.test.now c.args.yes) c.in-Impossible.is c.in_ok-assume.ensures)

pub leaves_same_where-returns-in-More : goal.leaves_same_where-returns-in-More
leaves_same_where-returns-in-More t c =
    let P : Arrays → List ℕ → Type 0 = LeavesDoSame c.args.left.now c.args.right.now in
    IfOk-weaker c.leaves_same.result _ _ (λ yes h e. under_more c.args.ctx.now c.args.arrays c.args.test.now c.args.yes P c.in-More.more
    (subst (IsAssumed c.args.ctx.now c.args.test.now c.args.yes) c.in-More.is c.in_ok-assume.ensures) Same (h e)) c.leaves_same.ensures
