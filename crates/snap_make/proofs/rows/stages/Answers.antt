use Rattle.std.proofs.Common.{◌∙◌}
use Rattle.snap_faithful.specs.OnDemand.{place_of, stages_of}
use Rattle.snap_make.proofs.Runs.{stages_more, stages_end}
use Rattle.snap_make.proofs.rows.stages.Goals as goal

pub loop-start-preserved : goal.loop-start-preserved
loop-start-preserved c =
    let place = place_of c.args.tables.now in
    record {
      within = c.end_of_run-end.ensures.within;
      all = stages_more place c.args.ups.now c.loop-start.start c.end_of_run-end.result c.end_of_run-end.ensures c.index-ups-start.result c.place.result c.place.ensures
          c.new.result (c.new.ensures ∙ c.in_ok-copy_updates.ensures) c.loop-start.stages.items c.push.new.self.items (stages_of place c.args.ups.now) c.in_ok-push.ensures.items c.loop-start.invariant.all;
    }

pub returns : goal.returns
returns c = stages_end (place_of c.args.tables.now) c.args.ups.now c.loop-start.start c.loop-start.stages.items (stages_of (place_of c.args.tables.now) c.args.ups.now) c.loop-start-test.false c.loop-start.invariant.all
