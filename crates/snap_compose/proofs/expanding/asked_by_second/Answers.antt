-- The test of the second, and what it leaves of both.
use Rattle.std.proofs.Common.{subst, refl}
use Rattle.snap_diagrams.specs.Picks.{sizes}
use Rattle.snap_diagrams.specs.Pruned.{IsPart}
use Rattle.snap_compose.proofs.Ahead.{second_asks}
use Rattle.snap_compose.proofs.expanding.asked_by_second.Goals as goal

pub returns-else-eq : goal.returns-else-eq
returns-else-eq c =
    let part = subst (IsPart c.args.nodes.now c.args.d) c.in-Split.is c.in_ok-part_of.ensures in
    second_asks c.args.groups.now c.args.ctx.now c.args.nodes.now c.args.mark c.args.a c.args.d c.in-Split.other c.in-Split.yes c.in-Split.no _ _ c.requires.mark (c.if-not-misses_test.ensures refl) c.requires.d.keeps part refl refl
    c.side.ensures.within c.side-in-Split.ensures.within
    (c.side.ensures.side c.args.groups.now.ranks (sizes c.args.groups.now c.args.ctx.now) c.requires.a.keeps) (c.side-in-Split.ensures.side c.args.groups.now.ranks (sizes c.args.groups.now c.args.ctx.now) c.requires.a.keeps)
