use Rattle.snap_dep.proofs.ByRank.{acts}
use Rattle.snap_dep.proofs.laws.acts_by_rank.Goals as goal

pub returns : goal.returns
returns c = acts
