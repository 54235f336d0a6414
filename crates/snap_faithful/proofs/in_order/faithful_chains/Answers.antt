use Rattle.snap_faithful.proofs.Turning.{faithful_chains}
use Rattle.snap_faithful.proofs.in_order.faithful_chains.Goals as goal

pub returns : goal.returns
returns c = faithful_chains
