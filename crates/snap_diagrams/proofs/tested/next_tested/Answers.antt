-- A test, and what stands on its ways.
use Rattle.std.proofs.Common.{subst}
use Rattle.snap_diagrams.specs.Diagrams.{IsNodeOf, diagram}
use Rattle.snap_diagrams.proofs.Testing.{over_asks}
use Rattle.snap_diagrams.proofs.tested.next_tested.Goals as goal

pub returns-in_ok-no-in-Ask : goal.returns-in_ok-no-in-Ask
returns-in_ok-no-in-Ask c =
    let l = subst (IsNodeOf c.args.nodes.now c.args.d) c.in-Ask.is c.look.ensures in
    rw (c.either-in-Ask.ensures, c.either.ensures) (over_asks c.test_tested.result c.in_ok-yes-in-Ask.yes c.in_ok-no-in-Ask.no c.in-Ask.test (diagram c.args.nodes.now c.in-Ask.yes) (diagram c.args.nodes.now c.in-Ask.no) (diagram c.args.nodes.now c.args.d) l.0 c.test_tested.ensures.over c.test_tested.ensures.range c.in_ok-yes-in-Ask.ensures c.in_ok-no-in-Ask.ensures)
