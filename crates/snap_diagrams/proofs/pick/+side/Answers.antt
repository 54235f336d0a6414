-- A told test gives way to one of its ways.
use Rattle.std.proofs.Common.{subst, ◌∙◌}
use Rattle.snap_diagrams.specs.Diagrams.{IsNodeOf}
use Rattle.snap_diagrams.specs.Picks.{IsDiagram}
use Rattle.snap_diagrams.proofs.Picking.{side_yes, side_no, side_here, yes_part, no_part}
use Rattle.snap_diagrams.proofs.pick.+side.Goals as goal

pub returns-in-Some-true-clause-side : goal.returns-in-Some-true-clause-side
returns-in-Some-true-clause-side t c = λ ranks s i.
    let l = subst (IsNodeOf c.args.nodes.now c.args.d) c.in-Ask.is c.look.ensures in
    let j = subst (IsDiagram ranks s) l.0 i in
    rw l.0 (side_yes ranks s c.args.test.now c.args.yes _ _ _ _ j (λ m k w. c.in-Some-true.ensures.some m k w ∙ c.in-Some-true.field-0-test) (c.side.ensures.side ranks s (yes_part ranks s _ _ _ j)))

pub returns-in-Some-false-clause-side : goal.returns-in-Some-false-clause-side
returns-in-Some-false-clause-side t c = λ ranks s i.
    let l = subst (IsNodeOf c.args.nodes.now c.args.d) c.in-Ask.is c.look.ensures in
    let j = subst (IsDiagram ranks s) l.0 i in
    rw l.0 (side_no ranks s c.args.test.now c.args.yes _ _ _ _ j (λ m k w. c.in-Some-false.ensures.some m k w ∙ c.in-Some-false.field-0-test) (c.side-in-Some-false.ensures.side ranks s (no_part ranks s _ _ _ j)))

pub returns-in-None-clause-side : goal.returns-in-None-clause-side
returns-in-None-clause-side t c = λ ranks s i.
    let l = subst (IsNodeOf c.args.nodes.now c.args.d) c.in-Ask.is c.look.ensures in
    let j = subst (IsDiagram ranks s) l.0 i in
    rw l.0 (side_here ranks s c.args.test.now c.args.yes _ _ _ j c.in-None.ensures.none)
