use Rattle.std.proofs.Common.{◌∙◌}
use Rattle.snap_report.proofs.words.next_word.Goals as goal

pub returns-in-Some-clause-word : goal.returns-in-Some-clause-word
returns-in-Some-clause-word c = c.in-Some.ensures.words ∙ c.split_word.ensures.word
