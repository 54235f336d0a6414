use Rattle.std.proofs.Common.{map}
use Rattle.snap_make.specs.Pairs.{hop_entry, hop_for}
use Rattle.snap_make.proofs.Pushed.{at_switch_more}
use Rattle.snap_make.proofs.outline.push_hops.Goals as goal

pub loop-target-preserved : goal.loop-target-preserved
loop-target-preserved c =
    at_switch_more (hop_for c.args.routes.now c.args.from) (map hop_entry c.args.hops.now.items) (map hop_entry c.loop-target.hops.items) _ c.args.from c.loop-target.target
    c.loop-target.invariant c.in_ok-push_hop.ensures
