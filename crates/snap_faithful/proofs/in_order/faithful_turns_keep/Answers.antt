use Rattle.snap_faithful.proofs.Turning.{faithful_turns}
use Rattle.snap_faithful.proofs.in_order.faithful_turns_keep.Goals as goal

pub returns : goal.returns
returns c = faithful_turns
