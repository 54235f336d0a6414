use Rattle.std.proofs.Common.{◌<◌, sym, subst, arith}
use Rattle.snap_topology.specs.Tables.{distance_of}
use Rattle.snap_make.proofs.MarkWay.{line_none, line_step}
use Rattle.snap_make.proofs.ways.+line.Goals as goal

pub line-requires : goal.line-requires
line-requires t c =
    let near = c.requires.nearer c.args.at c.args.target c.requires.at c.requires.target c.if-at-target.false in
    let is = c.next-on.ensures in
    let fall : distance_of c.args.routes.now c.next-on.result c.args.target < distance_of c.args.routes.now c.args.at c.args.target =
    subst (λ x. distance_of c.args.routes.now x c.args.target < distance_of c.args.routes.now c.args.at c.args.target) (sym is) near.1 in
    (omega (arith, fall, c.decreases), (c.requires.few, (omega (arith, near.0, is), (c.requires.target, c.requires.nearer))))

pub returns-then-at-target : goal.returns-then-at-target
returns-then-at-target t c = line_none c.args.routes.now c.args.target c.args.at c.args.here c.if-at-target.true

pub returns : goal.returns
returns t c = line_step c.args.routes.now c.args.target c.args.at c.args.here c.with.result c.line.result c.if-at-target.false c.next-on.result c.next-on.ensures c.with.ensures c.line.ensures
