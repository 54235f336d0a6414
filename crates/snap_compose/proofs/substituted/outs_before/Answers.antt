-- One out more.
use Rattle.snap_compose.proofs.Composing.{results_more, all_pushed}
use Rattle.snap_compose.proofs.substituted.outs_before.Goals as goal

pub loop-one-preserved : goal.loop-one-preserved
loop-one-preserved c = rw c.in_ok-push.ensures.items (record {
  fits = all_pushed c.args.comps c.loop-one.outs.items c.in_ok-out_before.field-0 c.loop-one.invariant.fits c.in_ok-out_before.ensures.fits;
  both = results_more c.args.comps c.args.out.now c.in_ok-out_before.field-0 c.one-item.result c.loop-one.outs.items c.args.later.now c.loop-one.one-index c.loop-one-test.true c.one-item.is c.in_ok-out_before.ensures.both c.loop-one.invariant.both;
})
