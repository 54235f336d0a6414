use Rattle.snap_faithful.proofs.Showing.{shown_mean}
use Rattle.snap_faithful.proofs.generated.shown_tables_mean.Goals as goal

pub returns : goal.returns
returns c = shown_mean
