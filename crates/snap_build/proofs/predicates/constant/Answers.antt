-- One leaf.
use Rattle.snap_build.proofs.Chained.{leaf_told}
use Rattle.snap_build.proofs.predicates.constant.Goals as goal

pub returns-clause-link : goal.returns-clause-link
returns-clause-link c = record {
  diagram = c.in_ok-diagram.ensures.diagram;
  last = c.in_ok-diagram.ensures.diagram;
  told = leaf_told c.args.ctx.now c.args.pass 0 c.leaf.new.nodes c.in_ok-diagram.diagram c.in_ok-diagram.ensures.is;
}
