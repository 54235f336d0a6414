use Rattle.snap_build.proofs.Wholly.{form_in}
use Rattle.snap_diagram_tests.proofs.of_build.is_judged.Goals as goal

pub build-requires-clause-body : goal.build-requires-clause-body
build-requires-clause-body c = form_in c.args.program.now c.requires
