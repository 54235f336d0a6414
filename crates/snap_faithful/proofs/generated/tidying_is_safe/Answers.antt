use Rattle.snap_faithful.proofs.Tidying.{tidying_keeps}
use Rattle.snap_faithful.proofs.generated.tidying_is_safe.Goals as goal

pub returns : goal.returns
returns c = tidying_keeps
