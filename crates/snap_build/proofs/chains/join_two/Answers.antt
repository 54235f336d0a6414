-- The later of both tests, and both diagrams joined.
use Rattle.snap_diagrams.proofs.Shared.{argument_kept}
use Rattle.snap_build.proofs.chains.join_two.Goals as goal

pub returns-clause-link : goal.returns-clause-link
returns-clause-link c = record {
  diagram = c.in_ok-diagram.ensures.diagram;
  last = argument_kept c.args.groups.now c.args.ctx.now c.args.nodes.now c.two_joined.new.nodes c.later-last.result c.two_joined.ensures.extends_arena c.later-last.ensures;
  told = c.in_ok-diagram.ensures.told;
}
