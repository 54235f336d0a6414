-- Each set of 64 bits has all numbers below 64.
use Rattle.snap_compose.proofs.Marked.{in_everything}
use Rattle.snap_compose.proofs.marks.anything.Goals as goal

pub returns : goal.returns
returns c = in_everything
