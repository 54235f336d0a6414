use Rattle.std.proofs.Common.{◌≡◌, ◌∙◌, ap, sym, false}
use Rattle.std.specs.Str.{is_utf8}
use Rattle.std.proofs.lemmas.List.Folds.{list_all-map, list_all_at}
use Rattle.std.proofs.lemmas.Result.{err_from_is_err_and}
use Rattle.snap_words.proofs.calls.texts.Goals as goal

pub returns-in_err-text-clause-usage : goal.returns-in_err-text-clause-usage
returns-in_err-text-clause-usage c =
    let p = err_from_is_err_and c.from_residual-in_err-text.result c.from_residual-in_err-text.ensures.1 in
    let item = c.word-item.result in
    let bad : is_utf8 item.items ≡ false = ap is_utf8 (sym c.as_slice.ensures.value) ∙ c.in_err-text.ensures.usage in
    rw (p.1, p.2) (λ _. list_all-map is_utf8 (λ w. w.items) c.args.words.now
    ∙ list_all_at (λ w. is_utf8 w.items) c.args.words.now c.loop-word.word-index item c.loop-word-test.true (ap (λ w. is_utf8 w.items) (sym c.word-item.is) ∙ bad))
