-- The diagram so far stays.
use Rattle.snap_diagrams.proofs.Shared.{argument_kept}
use Rattle.snap_diagram_tests.proofs.of_diagrams.behind.Goals as goal

pub ite-requires-clause-no : goal.ite-requires-clause-no
ite-requires-clause-no c = argument_kept c.args.groups.now c.args.ctx.now c.args.nodes.now c.mark.new.nodes c.args.d c.mark.ensures.extends_arena c.requires
