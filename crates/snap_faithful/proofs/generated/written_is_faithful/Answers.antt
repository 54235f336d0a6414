use Rattle.snap_faithful.proofs.Generating.{written}
use Rattle.snap_faithful.proofs.generated.written_is_faithful.Goals as goal

pub returns : goal.returns
returns c = written
