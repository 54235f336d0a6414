use Rattle.snap_refinement.proofs.Lines.{said_changes_rise}
use Rattle.snap_refinement.proofs.change_laws.said_changes_rise.Goals as goal

pub returns : goal.returns
returns c = said_changes_rise
