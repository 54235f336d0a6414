-- The diagram's test is the lesser.
use Rattle.std.proofs.Common.{subst, rules}
use Rattle.snap_diagrams.specs.Diagrams.{IsNodeOf}
use Rattle.snap_diagrams.proofs.Picking.{lower_first}
use Rattle.snap_diagrams.proofs.pick.lower.Goals as goal

pub returns-in-Greater : goal.returns-in-Greater
returns-in-Greater c =
    let l = subst (IsNodeOf c.args.nodes.now c.args.d) c.in-Ask.is c.look.ensures in
    lower_first c.args.groups.now.ranks _ c.args.test.now _ _ _ _ l.0 c.requires.d.keeps (search rules)
