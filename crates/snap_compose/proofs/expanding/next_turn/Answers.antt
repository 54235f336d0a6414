-- The test of the first, and what it leaves of both.
use Rattle.std.proofs.Common.{subst, refl}
use Rattle.snap_diagrams.specs.Picks.{sizes}
use Rattle.snap_diagrams.specs.Pruned.{IsPart}
use Rattle.snap_compose.proofs.Ahead.{first_asks}
use Rattle.snap_compose.proofs.expanding.next_turn.Goals as goal

pub returns-in_default : goal.returns-in_default
returns-in_default c =
    let part = subst (IsPart c.args.nodes.now c.args.a) c.in-Split.is c.in_ok-part_of.ensures in
    first_asks c.args.groups.now c.args.ctx.now c.args.nodes.now c.of-mark.result c.args.a c.args.d c.in-Split.test c.in-Split.yes c.in-Split.no _ _ (c.of-mark.ensures c.args.nodes.now c.requires.marked) c.requires.a.keeps part refl refl
    c.along.ensures.within c.along-in-Split.ensures.within
    (c.along.ensures.along c.args.groups.now.ranks (sizes c.args.groups.now c.args.ctx.now) c.requires.d.keeps) (c.along-in-Split.ensures.along c.args.groups.now.ranks (sizes c.args.groups.now c.args.ctx.now) c.requires.d.keeps)
