use Rattle.std.proofs.Common.{◌≡◌, take, true}
use Rattle.std.specs.List.{list_all}
use Rattle.std.specs.Str.{is_utf8}
use Rattle.snap_words.specs.Said.{bytes_of, lent}
use Rattle.snap_words.proofs.calls.texts.Given as goal

abbrev pub invariant-loop-word : goal.invariant-loop-word
invariant-loop-word l = (lent l.texts.items ≡ bytes_of (take l.word-index l.words)) × (list_all is_utf8 (bytes_of (take l.word-index l.words)) ≡ true)
