use Rattle.snap_cli.proofs.PlaceSpelled.{placements-are-spelled}
use Rattle.snap_cli.proofs.laws.placements_are_spelled.Goals as goal

pub returns : goal.returns
returns c = placements-are-spelled c.printed_is_read.ensures
