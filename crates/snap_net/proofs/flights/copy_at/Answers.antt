use Rattle.std.proofs.Common.{◌∙◌}
use Rattle.snap_net.proofs.Blocks.{at_spot}
use Rattle.snap_net.proofs.flights.copy_at.Goals as goal

pub returns : goal.returns
returns c = at_spot c.args.blocks.now c.args.spot c.index-blocks-spot.result c.requires c.index-blocks-spot.is ∙ c.get.ensures
