use Rattle.std.proofs.Common.{◌+◌, ◌<◌, drop, sym, subst}
use Rattle.std.proofs.Math.ListN.{drop_of_length-le}
use Rattle.snap_topology.specs.Tables.{switch_count}
use Rattle.snap_faithful.specs.OnDemand.{place_of}
use Rattle.snap_make.proofs.Settling.{drop_more, place_routed, walk_begins, walk_on, walk_ends}
use Rattle.snap_make.proofs.demands.walk.Goals as goal

pub loop-up-init : goal.loop-up-init
loop-up-init c = walk_begins c.args.routes.now (place_of c.args.tables.now) c.args.from c.args.ups.now c.args.here (subst (λ n. c.args.from < n) (sym c.requires.setting.count) c.requires.from)

pub line-marks-requires-clause-target : goal.line-marks-requires-clause-target
line-marks-requires-clause-target c = subst (λ x. x < switch_count c.args.routes.now) (sym c.place-to.ensures) (place_routed c.args.tables.now c.args.routes.now c.requires.setting c.up-item.result.var)

pub loop-up-preserved : goal.loop-up-preserved
loop-up-preserved c =
    walk_on c.args.routes.now (place_of c.args.tables.now) c.args.from c.args.ups.now c.loop-up.at (drop c.loop-up.up-index c.args.ups.now) c.args.here c.loop-up.marks c.loop-up.invariant
    c.up-item.result (drop (c.loop-up.up-index + 1) c.args.ups.now) c.place-to.result c.line-marks.result
    (drop_more c.args.ups.now c.loop-up.up-index c.up-item.result c.loop-up-test.true c.up-item.is) c.place-to.ensures
    (subst (λ x. x < switch_count c.args.routes.now) (sym c.place-to.ensures) (place_routed c.args.tables.now c.args.routes.now c.requires.setting c.up-item.result.var)) c.line-marks.ensures

pub returns : goal.returns
returns c =
    walk_ends c.args.routes.now (place_of c.args.tables.now) c.args.from c.args.ups.now c.loop-up.at (drop c.loop-up.up-index c.args.ups.now) c.args.here c.loop-up.marks c.loop-up.invariant
    (drop_of_length-le c.args.ups.now c.loop-up-test.false)
