use Rattle.snap_order.proofs.Weaving.{weaves}
use Rattle.snap_order.proofs.laws.shares_commute.Goals as goal

pub returns : goal.returns
returns c = λ t workers some busy parts ends cs queues xs woven s i stands low all agrees mine. weaves t workers some busy ends cs queues xs woven parts s i stands low all agrees mine
