use Rattle.snap_refinement.proofs.InForce.{turns_in_force}
use Rattle.snap_refinement.proofs.change_laws.turns_are_in_force.Goals as goal

pub returns : goal.returns
returns c = turns_in_force
