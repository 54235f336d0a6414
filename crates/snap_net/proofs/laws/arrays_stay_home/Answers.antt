use Rattle.snap_net.proofs.Home.{arrays_stay_home}
use Rattle.snap_net.proofs.laws.arrays_stay_home.Goals as goal

pub returns : goal.returns
returns c = arrays_stay_home
