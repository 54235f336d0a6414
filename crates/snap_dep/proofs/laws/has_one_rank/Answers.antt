use Rattle.snap_dep.proofs.OneRank.{has_one}
use Rattle.snap_dep.proofs.laws.has_one_rank.Goals as goal

pub returns : goal.returns
returns c = has_one
