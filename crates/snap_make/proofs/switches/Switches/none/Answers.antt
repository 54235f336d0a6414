use Rattle.snap_make.proofs.Words.{none_has}
use Rattle.snap_make.proofs.switches.Switches.none.Goals as goal

pub returns : goal.returns
returns c = none_has
