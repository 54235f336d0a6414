use Rattle.std.proofs.Common.{◌<◌, sym, ap, subst, ◌∙◌, arith}
use Rattle.snap_make.specs.Marks.{has_switch}
use Rattle.snap_topology.specs.Tables.{distance_of}
use Rattle.snap_make.proofs.MarkWay.{way_none, way_met, way_step}
use Rattle.snap_make.proofs.ways.+way.Goals as goal

pub way-requires : goal.way-requires
way-requires t c =
    let near = c.requires.nearer c.args.at c.args.target c.requires.at c.requires.target c.if-at-target.false in
    let is = c.next-on.ensures in
    let fall : distance_of c.args.routes.now c.next-on.result c.args.target < distance_of c.args.routes.now c.args.at c.args.target =
    subst (λ x. distance_of c.args.routes.now x c.args.target < distance_of c.args.routes.now c.args.at c.args.target) (sym is) near.1 in
    (omega (arith, fall, c.decreases), (c.requires.few, (omega (arith, near.0, is), (c.requires.target, c.requires.nearer))))

pub returns-then-at-target : goal.returns-then-at-target
returns-then-at-target t c = way_none c.args.routes.now c.args.target c.args.at c.args.here c.if-at-target.true

pub returns-then-has : goal.returns-then-has
returns-then-has t c = way_met c.args.routes.now c.args.target c.args.at c.args.here (ap (has_switch c.args.here) (sym c.next-on.ensures) ∙ sym c.has.ensures ∙ c.if-has.true)

pub returns : goal.returns
returns t c = way_step c.args.routes.now c.args.target c.args.at c.args.here c.with.result c.way.result c.if-at-target.false c.next-on.result c.next-on.ensures c.with.ensures c.way.ensures
