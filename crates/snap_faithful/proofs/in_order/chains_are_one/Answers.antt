use Rattle.snap_faithful.proofs.Chained.{visits_one, chains_one, fields_alike, chains_home}
use Rattle.snap_faithful.proofs.in_order.chains_are_one.Goals as goal

pub returns : goal.returns
returns c = record { visits = visits_one; chains = chains_one; fields = fields_alike; home = chains_home }
