-- A test, and what stands on its ways.
use Rattle.std.proofs.Common.{subst}
use Rattle.snap_diagrams.specs.Diagrams.{IsNodeOf, diagram}
use Rattle.snap_compose.proofs.Marked.{marked_asks}
use Rattle.snap_compose.proofs.marks.next_mark.Goals as goal

pub returns-in-Ask : goal.returns-in-Ask
returns-in-Ask c =
    let l = subst (IsNodeOf c.args.nodes.now c.args.d) c.in-Ask.is c.look.ensures in
    rw (c.either.ensures, c.either-ways.ensures) (marked_asks c.test_mark.result c.mark_at.result c.mark_at-in-Ask.result c.in-Ask.test (diagram c.args.nodes.now c.in-Ask.yes) (diagram c.args.nodes.now c.in-Ask.no) (diagram c.args.nodes.now c.args.d) l.0 c.test_mark.ensures (c.mark_at.ensures c.args.nodes.now c.requires.noted) (c.mark_at-in-Ask.ensures c.args.nodes.now c.requires.noted))
