use Rattle.std.proofs.Common.{arith}
use Rattle.snap_report.proofs.CutLemmas.{begins-length, begins-word}
use Rattle.snap_report.proofs.words.split_word.Goals as goal

pub returns-clause-word : goal.returns-clause-word
returns-clause-word c = begins-word c.args.text.now c.until_blank.result.0.now c.until_blank.result.1.now c.requires c.until_blank.ensures.until

pub returns-clause-shorter : goal.returns-clause-shorter
returns-clause-shorter c = omega (arith, c.until_blank.ensures.lengths, begins-length c.args.text.now c.until_blank.result.0.now c.until_blank.result.1.now c.requires c.until_blank.ensures.until)
