-- The distance to the target falls.
use Rattle.snap_topology.specs.Tables.{distance_of}
use Rattle.snap_make.proofs.ways.+line.Given as goal

abbrev pub decreases-line : goal.decreases-line
decreases-line l = distance_of l.routes.now l.at l.target
