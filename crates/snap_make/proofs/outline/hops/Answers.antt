use Rattle.std.proofs.Common.{map, refl}
use Rattle.snap_make.specs.Pairs.{hop_entry, hop_for}
use Rattle.snap_make.proofs.Pushed.{at_switches_more}
use Rattle.snap_make.proofs.outline.hops.Goals as goal

pub loop-from-preserved : goal.loop-from-preserved
loop-from-preserved c =
    at_switches_more (hop_for c.args.routes.now) (map hop_entry c.loop-from.hops.items) _ c.loop-from.from c.loop-from.from c.args.switches
    refl c.loop-from.invariant c.in_ok-push_hops.ensures
