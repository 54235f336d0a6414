use Rattle.std.proofs.Common.{sym}
use Rattle.snap_report.proofs.CutLemmas.{until-blank, until-end}
use Rattle.snap_report.proofs.words.until_blank.Goals as goal

pub returns-in-Some-clause-until : goal.returns-in-Some-clause-until
returns-in-Some-clause-until c = until-blank c.args.text.now c.in-Some.end (sym c.in-Some.ensures)

pub returns-in-None-clause-until : goal.returns-in-None-clause-until
returns-in-None-clause-until c = until-end c.args.text.now (sym c.in-None.ensures)
