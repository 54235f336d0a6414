-- Ways are lower.
use Rattle.snap_diagrams.proofs.pick.+side.Given as goal

abbrev pub decreases-side : goal.decreases-side
decreases-side l = l.d
