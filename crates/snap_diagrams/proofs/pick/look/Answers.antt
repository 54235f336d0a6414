-- A node's diagram.
use Rattle.snap_diagrams.proofs.Shared.{node_of}
use Rattle.snap_diagrams.proofs.pick.look.Goals as goal

pub returns : goal.returns
returns c = node_of c.args.nodes.now c.args.d c.get.result.now c.get.ensures.at c.get.ensures.lower
