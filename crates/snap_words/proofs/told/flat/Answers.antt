use Rattle.std.proofs.Common.{rules, ap₂, ◌≡◌, ◌∙◌}
use Rattle.std.proofs.lemmas.Result.{IfOk-weaker}
use Rattle.clap.specs.Words.{rule_of, with_rule}
use Rattle.snap_words.specs.Clap.{name_rule}
use Rattle.snap_words.proofs.told.flat.Goals as goal

pub returns : goal.returns
returns c =
    let name_is : rule_of c.action-name.result ≡ name_rule = search rules in
    IfOk-weaker c.arg.result _ _ (λ m h. h.shape (search rules) ∙ ap₂ with_rule c.in_ok-with_options.ensures name_is) c.arg.ensures
