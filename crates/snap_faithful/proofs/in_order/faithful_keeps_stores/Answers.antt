use Rattle.snap_faithful.proofs.Turning.{faithful_stores}
use Rattle.snap_faithful.proofs.in_order.faithful_keeps_stores.Goals as goal

pub returns : goal.returns
returns c = faithful_stores
