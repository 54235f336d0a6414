use Rattle.snap_make.specs.Marks.{has_switch}
use Rattle.snap_make.proofs.switches.Switches.has.Goals as goal

pub returns : goal.returns
unfolding has_switch
returns c = c.has_bit.ensures
