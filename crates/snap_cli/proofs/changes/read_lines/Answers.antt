use Rattle.snap_refinement.proofs.Lines.{said_changes_rise}
use Rattle.snap_cli.proofs.ChangesLemmas.{reads-told}
use Rattle.snap_cli.proofs.changes.read_lines.Goals as goal

pub returns-in-Ok-clause-rising : goal.returns-in-Ok-clause-rising
returns-in-Ok-clause-rising c = said_changes_rise c.args.text.now c.in-Ok.changes.items c.in-Ok.ensures

pub returns-in-Err-clause-reads : goal.returns-in-Err-clause-reads
returns-in-Err-clause-reads c = reads-told c.args.text.now c.in-Err.fault c.refusal_of_changes.result c.refusal_of_changes.ensures c.in-Err.ensures
