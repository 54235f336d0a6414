use Rattle.std.proofs.Common.{ap, ap₂, true, ◌≡◌, ◌∙◌}
use Rattle.std.proofs.lemmas.Result.{IfOk-weaker}
use Rattle.clap.specs.Words.{App, app_of, with_rule}
use Rattle.clap.specs.Simple.{app_of_fields}
use Rattle.clap.specs.declared.builder.command.Command.{Command}
use Rattle.clap.specs.declared.builder.command.Command.TheOpen.{Command-F}
use Rattle.snap_words.specs.Clap.{bare}
use Rattle.snap_words.proofs.told.with_flags.Goals as goal

pub returns : goal.returns
returns c =
    let bare_is : app_of c.disable_help_flag.result ≡ bare = ap app_of_fields c.disable_help_flag.ensures
    ∙ ap (λ (f : Command-F Command). app_of_fields (record f { disable_help_flag = true })) c.no_binary_name.ensures
    ∙ ap (λ (a : App). record a { top = record a.top { no_binary_name = true; disable_help_flag = true } }) c.new.ensures.app in
    let first = c.in_ok-arg.ensures.shape c.flag.ensures.local ∙ ap₂ with_rule bare_is c.flag.ensures.rule in
    let second = c.in_ok-arg-2.ensures.shape c.flag-2.ensures.local ∙ ap₂ with_rule first c.flag-2.ensures.rule in
    IfOk-weaker c.arg-3.result _ _ (λ m h. h.shape c.flag-3.ensures.local ∙ ap₂ with_rule second c.flag-3.ensures.rule) c.arg-3.ensures
