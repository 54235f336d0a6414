use Rattle.snap_net.proofs.OneFrame.{has_no_fault}
use Rattle.snap_net.proofs.frame_laws.has_no_fault.Goals as goal

pub returns : goal.returns
returns c = has_no_fault
