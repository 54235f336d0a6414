-- The words behind a command: its options and its names.
use Rattle.std.specs.Prelude.{ℕ, ◌==◌, ◌&&◌, ◌++◌, Bool, true, false, not, List, [], ◌∷◌, codes, Option, Some, None, if◌then◌else◌, is_some, option_and_then, option_map, unwrap_or}
use Rattle.std.specs.List.{after_first, before_first, list_all, list_any}
use Rattle.std.specs.Option.{option_or}
use Rattle.std.specs.Str.{bytes_eq}

abbrev pub Text : Type 0
Text = List ℕ

-- ---- options
-- those without a value
pub data Flag : Type 0 where
  hops_flag : Flag
  ordered_flag : Flag
  on_demand_flag : Flag

-- those with a value
pub data Valued : Type 0 where
  schedule_option : Valued
  changes_option : Valued
  workers_option : Valued

abbrev pub flag_text : Flag → Text
flag_text hops_flag = codes "hops"
flag_text ordered_flag = codes "ordered"
flag_text on_demand_flag = codes "on-demand"

abbrev pub option_text : Valued → Text
option_text schedule_option = codes "schedule"
option_text changes_option = codes "changes"
option_text workers_option = codes "workers"

-- the option with this name
abbrev pub flag_named : Text → Option Flag
flag_named name =
    if bytes_eq (codes "hops") name then Some hops_flag
    else if bytes_eq (codes "ordered") name then Some ordered_flag
    else if bytes_eq (codes "on-demand") name then Some on_demand_flag
    else None

abbrev pub option_named : Text → Option Valued
option_named name =
    if bytes_eq (codes "schedule") name then Some schedule_option
    else if bytes_eq (codes "changes") name then Some changes_option
    else if bytes_eq (codes "workers") name then Some workers_option
    else None

abbrev pub is_same_flag : Flag → Flag → Bool
is_same_flag hops_flag hops_flag = true
is_same_flag ordered_flag ordered_flag = true
is_same_flag on_demand_flag on_demand_flag = true
is_same_flag f g = false

abbrev pub is_same_option : Valued → Valued → Bool
is_same_option schedule_option schedule_option = true
is_same_option changes_option changes_option = true
is_same_option workers_option workers_option = true
is_same_option o p = false

-- ---- words
-- what a word is where no value is waited for: `--`, `--FLAG`, `--OPTION` with its value in the next word, `--OPTION=VALUE`,
-- or a name, as every other word
pub data Word : Type 0 where
  end_of_options : Word
  flag_word : Flag → Word
  option_word : Valued → Word
  value_word : Valued → Text → Word
  name_word : Word

-- the word that a name, and the value that perhaps stands behind it, say
abbrev pub option_with : (name : Text) → Option Text → Option Word
option_with name None = option_or (option_map flag_word (flag_named name)) (option_map option_word (option_named name))
option_with name (Some value) = option_map (λ o. value_word o value) (option_named name)

-- what stands behind the first `=`
abbrev pub value_in : Text → Option Text
value_in text = if list_any (λ x. x == 61) text then Some (after_first (λ x. x == 61) text) else None

abbrev pub behind_dashes : Text → Word
behind_dashes [] = end_of_options
behind_dashes (x ∷ xs) = unwrap_or (option_with (before_first (λ x. x == 61) (x ∷ xs)) (value_in (x ∷ xs))) name_word

-- what follows a hyphen
abbrev pub behind_hyphen : Text → Option Text
behind_hyphen [] = None
behind_hyphen (x ∷ xs) = if x == 45 then Some xs else None

abbrev pub word_of : Text → Word
word_of word = unwrap_or (option_map behind_dashes (option_and_then behind_hyphen (behind_hyphen word))) name_word

-- ---- what words say
pub record ArgumentsView : Type 0 where
  pub flags : Flag → Bool
  pub values : Valued → Option Text
  pub names : List Text

abbrev pub nothing : ArgumentsView
nothing = record { flags = λ f. false; values = λ o. None; names = [] }

abbrev pub flagged : ArgumentsView → Flag → ArgumentsView
flagged t f = record t { flags = λ g. if is_same_flag f g then true else t.flags g }

abbrev pub valued : ArgumentsView → Valued → Text → ArgumentsView
valued t o value = record t { values = λ p. if is_same_option o p then Some value else t.values p }

-- an option comes at most once
abbrev pub with_flag : ArgumentsView → Flag → Option ArgumentsView
with_flag t f = if t.flags f then None else Some (flagged t f)

abbrev pub with_value : ArgumentsView → Valued → Text → Option ArgumentsView
with_value t o value = if is_some (t.values o) then None else Some (valued t o value)

abbrev pub with_names : ArgumentsView → List Text → ArgumentsView
with_names t names = record t { names = t.names ++ names }

-- what a word adds; `next` reads the words behind it, where perhaps an option waits for its value. Behind `--` all are names
abbrev pub add : Word → ArgumentsView → Text → List Text → (Option Valued → ArgumentsView → Option ArgumentsView) → Option ArgumentsView
add end_of_options t word words next = Some (with_names t words)
add (flag_word f) t word words next = option_and_then (next None) (with_flag t f)
add (option_word o) t word words next = next (Some o) t
add (value_word o value) t word words next = option_and_then (next None) (with_value t o value)
add name_word t word words next = next None (with_names t (word ∷ []))

-- what words say after what was said before; an option may wait for its value
abbrev pub arguments_of : List Text → (waits : Option Valued) → ArgumentsView → Option ArgumentsView
arguments_of [] None t = Some t
arguments_of [] (Some o) t = None
arguments_of (word ∷ words) None t = add (word_of word) t word words (arguments_of words)
arguments_of (word ∷ words) (Some o) t = option_and_then (arguments_of words None) (with_value t o word)

-- a name, and the value of an option, is not empty and does not begin with `-`
abbrev pub is_name : Text → Bool
is_name [] = false
is_name (x ∷ xs) = not (x == 45)

abbrev pub is_name_or_none : Option Text → Bool
is_name_or_none None = true
is_name_or_none (Some value) = is_name value

abbrev pub has_values : ArgumentsView → Bool
has_values t = is_name_or_none (t.values schedule_option)
    && is_name_or_none (t.values changes_option) && is_name_or_none (t.values workers_option)

abbrev pub has_names : ArgumentsView → Bool
has_names t = list_all is_name t.names && has_values t

-- nothing where a name or a value isn't one
abbrev pub checked : ArgumentsView → Option ArgumentsView
checked t = if has_names t then Some t else None

-- what the words behind a command say, where they are of the form
abbrev pub told_by : List Text → Option ArgumentsView
told_by words = option_and_then checked (arguments_of words None nothing)
