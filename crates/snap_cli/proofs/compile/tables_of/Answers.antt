use Rattle.snap_cli.proofs.CompileLemmas.{compiles-made}
use Rattle.snap_cli.proofs.compile.tables_of.Goals as goal

pub returns-in-Ok-clause-compiles : goal.returns-in-Ok-clause-compiles
returns-in-Ok-clause-compiles c =
    compiles-made c.args.program c.args.network.now.topology c.args.text.now c.in-Ok.placement c.args.on_demand c.make-made.result c.in-Ok.ensures.answer c.make-made.ensures.makes
