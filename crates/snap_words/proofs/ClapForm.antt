-- What `clap` makes of the words behind a command, before our own tests.
use Rattle.std.specs.Prelude.{◌≡◌, option_map, unwrap_or, cond, List, [], ◌∷◌, codes, Option, Some, None, option_and_then, if◌then◌else◌, bytes_eq}
use Rattle.clap.specs.Lexer.{long_of, short_of}
use Rattle.clap.specs.Walk.{one_of}
use Rattle.clap.specs.Words.{Row, all_of}
use Rattle.snap_words.specs.Words.{Flag, Text, ArgumentsView, Valued, Word, add, end_of_options, flag_text, name_word, option_text, option_with, with_value}

-- what a word says, where no value is waited for, unless it is refused
abbrev pub long_met : Option (Text × Option Text) → Option Text → Option Word
long_met (Some p) short = option_with p.0 p.1
long_met None (Some flags) = None
long_met None None = Some name_word

abbrev pub met_of : Text → Option Word
met_of w = if bytes_eq w (codes "--") then Some end_of_options else long_met (long_of w) (short_of w)

-- the rest of the words, behind a word; an option that waits takes a name
abbrev pub after : (waits : Option Valued) → Option Word → ArgumentsView → Text → List Text → (Option Valued → ArgumentsView → Option ArgumentsView) → Option ArgumentsView
after None None t w ws k = None
after None (Some m) t w ws k = add m t w ws k
after (Some o) (Some name_word) t w ws k = option_and_then (k None) (with_value t o w)
after (Some o) m t w ws k = None

-- what `clap` takes, and what it then says
abbrev pub read : List Text → (waits : Option Valued) → ArgumentsView → Option ArgumentsView
read [] None t = Some t
read [] (Some o) t = None
read (w ∷ ws) waits t = after waits (met_of w) t w ws (read ws)

-- the matches say what the words say
pub record Has (r : List Row) (t : ArgumentsView) : Type 0 where
  pub flags_are : (f : Flag) → one_of (flag_text f) r ≡ Some (cond (t.flags f) (codes "true") (codes "false"))
  pub values_are : (o : Valued) → all_of (option_text o) r ≡ option_map (λ v. v ∷ []) (t.values o)
  pub names_is : unwrap_or (all_of (codes "name") r) [] ≡ t.names
