use Rattle.std.specs.Str.{is_utf8}
use Rattle.std.proofs.lemmas.Str.{IsUtf8-from_is_utf8, is_utf8-from_IsUtf8}
use Rattle.std.proofs.lemmas.Bool.{false_from_ne_true}
use Rattle.snap_words.proofs.calls.text.Goals as goal

pub returns-in-Ok-clause-ok : goal.returns-in-Ok-clause-ok
returns-in-Ok-clause-ok c = is_utf8-from_IsUtf8 c.args.word.now c.in-Ok.ensures.cases.1

pub returns-in-Err-clause-usage : goal.returns-in-Err-clause-usage
returns-in-Err-clause-usage c = false_from_ne_true (is_utf8 c.args.word.now) (λ text. c.in-Err.ensures.cases.0 (IsUtf8-from_is_utf8 c.args.word.now text))
