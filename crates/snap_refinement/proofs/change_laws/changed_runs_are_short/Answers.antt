use Rattle.snap_refinement.proofs.OneProgram.{changed_short}
use Rattle.snap_refinement.proofs.change_laws.changed_runs_are_short.Goals as goal

pub returns : goal.returns
returns c = changed_short
