use Rattle.std.proofs.Common.{sym, ◌∙◌, arith}
use Rattle.snap_faithful.proofs.Comparing.{past_second, first_less}
use Rattle.snap_faithful.proofs.leaves.compare_parts.Goals as goal

pub returns-then-at-b : goal.returns-then-at-b
returns-then-at-b c = sym (past_second c.args.a.now c.args.b.now c.loop-at.at c.loop-at-test.true c.if-at-b.true c.loop-at.invariant.1) ∙ c.loop-at.invariant.0

pub returns-then-a-b : goal.returns-then-a-b
returns-then-a-b c = sym (first_less c.args.a.now c.args.b.now c.loop-at.at c.loop-at-test.false c.loop-at.auto.at-end (omega (arith, c.loop-at-test.false, c.loop-at.auto.at-end, c.if-a-b.true))) ∙ c.loop-at.invariant.0
