use Rattle.snap_build.proofs.Wholly.{form_in}
use Rattle.snap_cli.proofs.diagram.diagram_of.Goals as goal

pub build-requires-clause-body : goal.build-requires-clause-body
build-requires-clause-body c = form_in c.args.program.now c.requires.form
