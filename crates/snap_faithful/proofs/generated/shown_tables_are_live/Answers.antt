use Rattle.snap_faithful.proofs.Showing.{shown_live}
use Rattle.snap_faithful.proofs.generated.shown_tables_are_live.Goals as goal

pub returns : goal.returns
returns c = shown_live
