use Rattle.snap_placement.proofs.ReadBack.{printed_is_read}
use Rattle.snap_placement.proofs.laws.printed_is_read.Goals as goal

pub returns : goal.returns
returns c = printed_is_read
