use Rattle.snap_faithful.proofs.Closed.{closed_is_whole}
use Rattle.snap_faithful.proofs.Derived.{derived_is_on_demand}
use Rattle.snap_faithful.proofs.StagedPlanning.{on_demand_is_valid}
use Rattle.snap_faithful.proofs.Written.{written_on_demand}
use Rattle.snap_faithful.proofs.on_demand.written_on_demand_is_faithful.Goals as goal

pub returns : goal.returns
returns c = record { whole = closed_is_whole; derived = derived_is_on_demand; valid = on_demand_is_valid; faithful = written_on_demand }
