-- The distance to the target falls.
use Rattle.snap_topology.specs.Tables.{distance_of}
use Rattle.snap_make.proofs.ways.+way.Given as goal

abbrev pub decreases-way : goal.decreases-way
decreases-way l = distance_of l.routes.now l.at l.target
