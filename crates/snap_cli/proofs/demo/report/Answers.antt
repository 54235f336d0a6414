use Rattle.snap_cli.proofs.DemoLemmas.{meets-summary}
use Rattle.snap_cli.proofs.StatusLemmas.{ends-summary}
use Rattle.snap_cli.proofs.demo.report.Goals as goal

pub returns-clause-meets : goal.returns-clause-meets
returns-clause-meets g c = λ files. meets-summary files c.args.switches.value _ _ c.write_summary.result c.write_summary.ensures.meets

pub returns-clause-statuses : goal.returns-clause-statuses
returns-clause-statuses g c = ends-summary c.args.switches.value c.write_summary.result _ _ c.write_summary.ensures.meets
