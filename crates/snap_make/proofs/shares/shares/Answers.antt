use Rattle.std.proofs.Common.{length}
use Rattle.snap_make.specs.Shares.{entries, shown, with_stop}
use Rattle.snap_make.proofs.Pushed.{at_switches_more}
use Rattle.snap_make.proofs.shares.shares.Goals as goal

pub loop-at-preserved : goal.loop-at-preserved
loop-at-preserved c = record {
  placed = c.in_ok-push_rows.ensures.placed;
  rows =
      at_switches_more (shown c.args.tables.now c.args.bodies.now c.args.fronts.now) (entries (with_stop c.args.bodies.now) c.loop-at.rows.items) _ c.site_at-site.result.at c.loop-at.at (length c.args.bodies.now)
      c.site_at-site.ensures.at c.loop-at.invariant.rows c.in_ok-push_rows.ensures.rows;
}
