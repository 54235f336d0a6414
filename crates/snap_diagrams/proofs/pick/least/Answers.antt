-- The least of three.
use Rattle.snap_diagrams.proofs.Picking.{least_of}
use Rattle.snap_diagrams.proofs.pick.least.Goals as goal

pub returns : goal.returns
returns c = least_of c.args.groups.now.ranks _ c.args.test.now c.lower-first.result.now c.lower.result.now _ _ c.lower-first.ensures c.lower.ensures
