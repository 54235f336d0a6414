use Rattle.snap_rows.proofs.Measured.{hops_are_bounded}
use Rattle.snap_rows.proofs.laws.hops_are_bounded.Goals as goal

pub returns : goal.returns
returns c = hops_are_bounded
