-- The first test of two diagrams.
use Rattle.std.proofs.Common.{subst}
use Rattle.snap_diagrams.specs.Diagrams.{IsNodeOf}
use Rattle.snap_compose.proofs.Combining.{first_of_lower, first_of_second}
use Rattle.snap_compose.proofs.joining.begin.Goals as goal

pub returns-in_ok-first-in-Ask : goal.returns-in_ok-first-in-Ask
returns-in_ok-first-in-Ask c =
    let l = subst (IsNodeOf c.args.nodes.now c.args.a) c.in-Ask.is c.look.ensures in
    first_of_lower c.args.groups.now.ranks _ _ c.in_ok-first-in-Ask.first _ _ _ _ l.0 (rw c.in_ok-first-in-Ask.ensures c.lower.ensures)

pub returns-in_ok-copy-in-Ask-look : goal.returns-in_ok-copy-in-Ask-look
returns-in_ok-copy-in-Ask-look c =
    let l = subst (IsNodeOf c.args.nodes.now c.args.a) c.in-Leaf.is c.look.ensures in
    let r = subst (IsNodeOf c.args.nodes.now c.args.b) c.in-Ask-look.is c.look-in-Leaf.ensures in
    rw c.in_ok-copy-in-Ask-look.ensures (first_of_second c.args.groups.now.ranks _ _ _ _ _ _ _ l r.0 c.requires.b.keeps)
