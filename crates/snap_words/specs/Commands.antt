-- The commands, and the words that name one.
use Rattle.std.specs.Prelude.{ℕ, ◌||◌, Bool, true, false, List, [], ◌∷◌, codes, Option, Some, None, if◌then◌else◌, is_some, option_and_then, option_map}
use Rattle.std.specs.List.{list_all}
use Rattle.std.specs.Str.{bytes_eq, is_utf8}
use Rattle.snap_words.specs.Counts.{count_of}
use Rattle.snap_words.specs.Words.{Text, ArgumentsView, hops_flag, on_demand_flag, ordered_flag, schedule_option, changes_option, workers_option, told_by}

-- in which order `trace` runs packets: one after the other, by the lines of a file, or one after the other between changes of
-- tables by the lines of a file; or each rank's packets in their turn, one after the other, by the lines of a file, or by rounds that
-- so many workers make
pub data Order : Type 0 where
  plain : Order
  schedule : Text → Order
  changes : Text → Order
  in_order : (lines : Option Text) → Order
  rounds : (workers : ℕ) → Order

-- a command and the files that it names
pub data Command : Type 0 where
  obs : Text → Text → Command
  deps : Text → Command
  check : Text → Command
  equal : Text → Text → Command
  routes : Text → Command
  place : Text → Text → Text → Command
  compile : Text → Text → Text → (on_demand : Bool) → Command
  trace : Text → Text → (hops : Bool) → Order → Command
  demo : (switches : ℕ) → Command

-- an option of `trace` was there
abbrev pub has_trace_options : ArgumentsView → Bool
has_trace_options t = t.flags hops_flag || t.flags ordered_flag || is_some (t.values schedule_option)
    || is_some (t.values changes_option) || is_some (t.values workers_option)

-- an option was there
abbrev pub has_options : ArgumentsView → Bool
has_options t = t.flags on_demand_flag || has_trace_options t

-- the names of a command that has no options
abbrev pub names_alone : ArgumentsView → Option (List Text)
names_alone t = if has_options t then None else Some t.names

-- a command of one name, of two, and of three
abbrev pub with_one : (Text → Command) → List Text → Option Command
with_one make [] = None
with_one make (a ∷ []) = Some (make a)
with_one make (a ∷ b ∷ more) = None

abbrev pub with_two : (Text → Text → Command) → List Text → Option Command
with_two make [] = None
with_two make (a ∷ []) = None
with_two make (a ∷ b ∷ []) = Some (make a b)
with_two make (a ∷ b ∷ c ∷ more) = None

abbrev pub with_three : (Text → Text → Text → Command) → List Text → Option Command
with_three make [] = None
with_three make (a ∷ []) = None
with_three make (a ∷ b ∷ []) = None
with_three make (a ∷ b ∷ c ∷ []) = Some (make a b c)
with_three make (a ∷ b ∷ c ∷ d ∷ more) = None

-- `demo` has a number from 1 to 64 in place of names
abbrev pub demo_for : List Text → Option Command
demo_for [] = None
demo_for (a ∷ []) = option_map demo (count_of a)
demo_for (a ∷ b ∷ more) = None

-- the command of a first word and of the names behind it, of those that have no options
abbrev pub plain_command : Text → List Text → Option Command
plain_command first names =
    if bytes_eq first (codes "obs") then with_two obs names
    else if bytes_eq first (codes "deps") then with_one deps names
    else if bytes_eq first (codes "check") then with_one check names
    else if bytes_eq first (codes "equal") then with_two equal names
    else if bytes_eq first (codes "routes") then with_one routes names
    else if bytes_eq first (codes "place") then with_three place names
    else if bytes_eq first (codes "demo") then demo_for names
    else None

-- the order of a run, where its options go together
abbrev pub order_by : (ordered : Bool) → (lines tables workers : Option Text) → Option Order
order_by false None None None = Some plain
order_by false (Some file) None None = Some (schedule file)
order_by false None (Some file) None = Some (changes file)
order_by true lines None None = Some (in_order lines)
order_by true None None (Some count) = option_map rounds (count_of count)
order_by ordered lines tables workers = None

abbrev pub order_of : ArgumentsView → Option Order
order_of t = order_by (t.flags ordered_flag) (t.values schedule_option) (t.values changes_option) (t.values workers_option)

abbrev pub trace_for : ArgumentsView → Option Command
trace_for t =
    if t.flags on_demand_flag then None
    else option_and_then (λ order. with_two (λ tables packets. trace tables packets (t.flags hops_flag) order) t.names) (order_of t)

abbrev pub compile_for : ArgumentsView → Option Command
compile_for t =
    if has_trace_options t then None
    else with_three (λ program topology placement. compile program topology placement (t.flags on_demand_flag)) t.names

-- the command of a first word and of what the others say; options are of `trace` and `compile` alone
abbrev pub command_for : Text → ArgumentsView → Option Command
command_for first t =
    if bytes_eq first (codes "trace") then trace_for t
    else if bytes_eq first (codes "compile") then compile_for t
    else option_and_then (plain_command first) (names_alone t)

-- the command that texts name
abbrev pub command_in : List Text → Option Command
command_in [] = None
command_in (first ∷ words) = option_and_then (command_for first) (told_by words)

-- the command that the words of a command line name; each word is UTF-8
abbrev pub command_of : List Text → Option Command
command_of words = if list_all is_utf8 words then command_in words else None
