use Rattle.snap_refinement.proofs.WithoutHops.{turns_without_hops}
use Rattle.snap_refinement.proofs.change_laws.turns_report_without_hops.Goals as goal

pub returns : goal.returns
returns c = turns_without_hops
