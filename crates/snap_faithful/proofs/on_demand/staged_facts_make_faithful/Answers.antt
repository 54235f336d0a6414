use Rattle.snap_faithful.proofs.StagedWhole.{staged_facts_make}
use Rattle.snap_faithful.proofs.on_demand.staged_facts_make_faithful.Goals as goal

pub returns : goal.returns
returns c = staged_facts_make
