use Rattle.snap_order.proofs.Keeping.{keeps_order}
use Rattle.snap_order.proofs.laws.faithful_is_serializable.Goals as goal

pub returns : goal.returns
returns c = keeps_order
