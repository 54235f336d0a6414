use Rattle.std.proofs.Common.{ap₂, ◌∙◌}
use Rattle.std.proofs.lemmas.Result.{IfOk-weaker}
use Rattle.clap.specs.Words.{with_rule}
use Rattle.snap_words.proofs.told.with_options.Goals as goal

pub returns : goal.returns
returns c =
    let first = c.in_ok-arg.ensures.shape c.option.ensures.local ∙ ap₂ with_rule c.in_ok-with_flags.ensures c.option.ensures.rule in
    let second = c.in_ok-arg-2.ensures.shape c.option-2.ensures.local ∙ ap₂ with_rule first c.option-2.ensures.rule in
    IfOk-weaker c.arg-3.result _ _ (λ m h. h.shape c.option-3.ensures.local ∙ ap₂ with_rule second c.option-3.ensures.rule) c.arg-3.ensures
