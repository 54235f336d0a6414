use Rattle.snap_net.proofs.OneFrame.{spells_one}
use Rattle.snap_net.proofs.frame_laws.spells_one.Goals as goal

pub returns : goal.returns
returns c = spells_one
