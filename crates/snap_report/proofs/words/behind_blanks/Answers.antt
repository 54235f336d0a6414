use Rattle.std.proofs.Common.{sym}
use Rattle.snap_report.proofs.WordLemmas.{words_of-inked, words_of-none, BeginsWord-inked}
use Rattle.snap_report.proofs.words.behind_blanks.Goals as goal

pub returns-in-Some-clause-words : goal.returns-in-Some-clause-words
returns-in-Some-clause-words c = words_of-inked c.args.text.now c.in-Some.begin (sym c.in-Some.ensures)

pub returns-in-Some-clause-begins : goal.returns-in-Some-clause-begins
returns-in-Some-clause-begins c = BeginsWord-inked c.args.text.now c.in-Some.begin (sym c.in-Some.ensures)

pub returns-in-None-clause-words : goal.returns-in-None-clause-words
returns-in-None-clause-words c = words_of-none c.args.text.now (sym c.in-None.ensures)
