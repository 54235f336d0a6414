use Rattle.std.proofs.Common.{length, refl}
use Rattle.snap_faithful.specs.OnDemand.{place_of}
use Rattle.snap_make.specs.Demanded.{demanded, with_gone}
use Rattle.snap_make.specs.Shares.{entries}
use Rattle.snap_make.proofs.Pushed.{at_switches_more}
use Rattle.snap_make.proofs.demanded.shares.Goals as goal

pub loop-at-preserved : goal.loop-at-preserved
loop-at-preserved c = record {
  placed = c.in_ok-push_rows.ensures.placed;
  rows =
      at_switches_more (demanded c.args.tables.now c.args.bodies.now c.args.marks.now) (entries (with_gone (place_of c.args.tables.now) c.args.bodies.now) c.loop-at.rows.items) _ c.loop-at.at c.loop-at.at (length c.args.bodies.now)
      refl c.loop-at.invariant.rows c.in_ok-push_rows.ensures.rows;
}
