use Rattle.snap_placement.proofs.Bests.{at-left, rows-left, way-more}
use Rattle.snap_placement.proofs.search.follow.Goals as goal

pub next-at-requires : goal.next-at-requires
next-at-requires c = at-left c.args.nexts.now c.loop-stage.stage-index c.loop-stage.at c.stage-item.result c.loop-stage-test.true c.stage-item.is c.loop-stage.invariant.rows

pub loop-stage-preserved : goal.loop-stage-preserved
loop-stage-preserved c =
    let i = c.loop-stage.stage-index in
    let nexts = c.args.nexts.now in
    record {
      rows = rows-left nexts i c.loop-stage.at c.next-at.result c.stage-item.result c.loop-stage-test.true c.stage-item.is c.next-at.ensures c.loop-stage.invariant.rows;
      all = way-more nexts i c.loop-stage.at c.next-at.result c.stage-item.result c.loop-stage.way.items c.push.new.self.items _ c.loop-stage-test.true c.stage-item.is c.next-at.ensures c.in_ok-push.ensures.items c.loop-stage.invariant.all;
    }
