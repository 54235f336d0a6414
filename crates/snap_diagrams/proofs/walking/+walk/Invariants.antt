-- Ways are lower.
use Rattle.snap_diagrams.proofs.walking.+walk.Given as goal

abbrev pub decreases-walk : goal.decreases-walk
decreases-walk l = l.d
