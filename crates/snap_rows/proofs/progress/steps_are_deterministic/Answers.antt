use Rattle.snap_rows.proofs.OneWay.{one_way}
use Rattle.snap_rows.proofs.progress.steps_are_deterministic.Goals as goal

pub returns : goal.returns
returns c = one_way
