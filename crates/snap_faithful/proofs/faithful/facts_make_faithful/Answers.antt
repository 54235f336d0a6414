use Rattle.snap_faithful.proofs.Whole.{facts_make}
use Rattle.snap_faithful.proofs.faithful.facts_make_faithful.Goals as goal

pub returns : goal.returns
returns c = facts_make
