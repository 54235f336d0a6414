-- The one flat command that `clap` reads the words behind a command with.
use Rattle.std.specs.Prelude.{codes, Some, true}
use Rattle.clap.specs.Words.{App, Rule, new_app, new_rule, with_rule}
use Rattle.clap.specs.declared.builder.ArgAction.TheVariants.{Append, Set, SetTrue}
use Rattle.snap_words.specs.Words.{Text}

abbrev pub flag_rule : Text → Rule
flag_rule name = record (new_rule name) { long = Some name; action = Some SetTrue }

abbrev pub option_rule : Text → Rule
option_rule name = record (new_rule name) { long = Some name; action = Some Set }

abbrev pub name_rule : Rule
name_rule = record (new_rule (codes "name")) { action = Some Append }

-- no name of a program in front, and no word for help
abbrev pub bare : App
bare = let a = new_app (codes "snapc") in record a { top = record a.top { no_binary_name = true; disable_help_flag = true } }

abbrev pub with_flags : App
with_flags = with_rule (with_rule (with_rule bare (flag_rule (codes "hops"))) (flag_rule (codes "ordered"))) (flag_rule (codes "on-demand"))

abbrev pub with_options : App
with_options = with_rule (with_rule (with_rule with_flags (option_rule (codes "schedule"))) (option_rule (codes "changes")))
    (option_rule (codes "workers"))

abbrev pub app : App
app = with_rule with_options name_rule
