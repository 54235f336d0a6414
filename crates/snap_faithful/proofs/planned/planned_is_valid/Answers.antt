use Rattle.snap_faithful.proofs.Planning.{planned_is_valid}
use Rattle.snap_faithful.proofs.planned.planned_is_valid.Goals as goal

pub returns : goal.returns
returns c = planned_is_valid
