-- From the matches of `clap` to what was told.
use Rattle.std.proofs.Common.{◌≡◌, ◌≢◌, ◌∙◌, refl, sym, ap, subst, Bool, true, false, cond, List, [], ◌∷◌, codes, Option, Some, None, option_and_then, option_map, unwrap_or, slice_get, find, MatchOption, bytes_eq}
use Rattle.std.specs.List.{list_all}
use Rattle.std.specs.Str.{is_utf8}
use Rattle.std.proofs.lemmas.Str.{IsUtf8-from_is_utf8}
use Rattle.std.proofs.lemmas.Bool.{and_parts}
use Rattle.clap.specs.Matches.{first_value, one_text}
use Rattle.clap.specs.Walk.{first_of}
use Rattle.clap.specs.Words.{Row, all_of, fault_of, matches_of, rows_of}
use Rattle.clap.specs.declared.parser.matches.Found.{Found}
use Rattle.clap.proofs.WalkLemmas.{first_value-rows, one_text-rows}
use Rattle.snap_words.specs.Clap.{app}
use Rattle.snap_words.specs.Words.{Flag, Text, ArgumentsView, Valued, changes_option, checked, flag_text, has_names, hops_flag, nothing, on_demand_flag, option_text, ordered_flag, schedule_option, told_by, workers_option}
use Rattle.snap_words.proofs.Checked.{arguments_of-read}
use Rattle.snap_words.proofs.ClapForm.{Has, read}
use Rattle.snap_words.proofs.Shapes.{AllText}
use Rattle.snap_words.proofs.Walk.{app-form}

pub all_text : (ws : List Text) → list_all is_utf8 ws ≡ true → AllText ws
all_text [] h = tt
all_text (w ∷ ws) h = let parts = and_parts (is_utf8 w) (list_all is_utf8 ws) h in (IsUtf8-from_is_utf8 w parts.0, all_text ws parts.1)

abbrev Form : Option ArgumentsView → List Text → Type 0
Form o ws = MatchOption o (fault_of app ws ≡ [] → ⊥) (λ t. (fault_of app ws ≡ []) × Has (matches_of app ws) t)

read_ok : (o : Option ArgumentsView) (ws : List Text) (rows : List Row) → Form o ws → fault_of app ws ≡ [] → rows ≡ matches_of app ws → (t : ArgumentsView) × (o ≡ Some t) × Has rows t
read_ok None ws rows h none same = absurd (h none)
read_ok (Some t) ws rows h none same = (t, refl, let P : List Row → Type 0 = λ r. Has r t in subst P (sym same) h.1)

read_err : (o : Option ArgumentsView) (ws : List Text) → Form o ws → fault_of app ws ≢ [] → o ≡ None
read_err None ws h some = refl
read_err (Some t) ws h some = absurd (some h.0)

first_of-all_of : (id : Text) (rows : List Row) → first_of id rows ≡ option_and_then (λ vs. slice_get vs 0) (all_of id rows)
first_of-all_of id rows = go (find (λ r. bytes_eq r.id id) rows)
  where
    go : (o : Option Row) → option_and_then (λ r. slice_get r.values 0) o ≡ option_and_then (λ vs. slice_get vs 0) (option_map (λ r. r.values) o)
    go None = refl
    go (Some r) = refl

first-one : (o : Option Text) → option_and_then (λ vs. slice_get vs 0) (option_map (λ v. v ∷ []) o) ≡ o
first-one None = refl
first-one (Some v) = refl

-- `get_str`
value_told : (o : Valued) (f : Found) (t : ArgumentsView) → Has (rows_of f) t → first_value f (option_text o) ≡ t.values o
value_told o f t has = first_value-rows f (option_text o) ∙ first_of-all_of (option_text o) (rows_of f) ∙ ap (option_and_then (λ vs. slice_get vs 0)) (has.values_are o) ∙ first-one (t.values o)

-- `get_flag` read this text
abbrev pub TellsFlag : Found → Text → Bool → Type 0
TellsFlag f name r = (one_text f name ≡ Some (codes "true") → r ≡ true) × (one_text f name ≡ Some (codes "false") → r ≡ false)

flag_by : (o : Option Text) (r b : Bool) → o ≡ Some (cond b (codes "true") (codes "false")) → (o ≡ Some (codes "true") → r ≡ true) → (o ≡ Some (codes "false") → r ≡ false) → r ≡ b
flag_by o r true is on off = on is
flag_by o r false is on off = off is

flag_told : (g : Flag) (f : Found) (t : ArgumentsView) (r : Bool) → Has (rows_of f) t → TellsFlag f (flag_text g) r → r ≡ t.flags g
flag_told g f t r has tells = flag_by _ r (t.flags g) (one_text-rows f (flag_text g) ∙ has.flags_are g) tells.0 tells.1

-- what the words say is what `clap` reads, where the names pass our test
told_read : (ws : List Text) → told_by ws ≡ option_and_then checked (read ws None nothing)
told_read ws = arguments_of-read ws None nothing

pub clap_ok : (ws : List Text) (rows : List Row) → list_all is_utf8 ws ≡ true → fault_of app ws ≡ [] → rows ≡ matches_of app ws → (t : ArgumentsView) × (told_by ws ≡ checked t) × Has rows t
clap_ok ws rows text none same =
    let found = read_ok (read ws None nothing) ws rows (app-form ws (all_text ws text)) none same in
    (found.0, told_read ws ∙ ap (option_and_then checked) found.1, found.2)

pub clap_err : (ws : List Text) → list_all is_utf8 ws ≡ true → fault_of app ws ≢ [] → told_by ws ≡ None
clap_err ws text some = told_read ws ∙ ap (option_and_then checked) (read_err (read ws None nothing) ws (app-form ws (all_text ws text)) some)

same_told : (u t : ArgumentsView) → ((f : Flag) → u.flags f ≡ t.flags f) → ((o : Valued) → u.values o ≡ t.values o) → u.names ≡ t.names → u ≡ t
same_told u t flags values names = λ i. record { flags = λ f. flags f i; values = λ o. values o i; names = names i }

-- what the getters read of the matches
pub record Tells (f : Found) (u : ArgumentsView) : Type 0 where
  pub hops : TellsFlag f (codes "hops") (u.flags hops_flag)
  pub ordered : TellsFlag f (codes "ordered") (u.flags ordered_flag)
  pub on_demand : TellsFlag f (codes "on-demand") (u.flags on_demand_flag)
  pub schedule : u.values schedule_option ≡ first_value f (codes "schedule")
  pub changes : u.values changes_option ≡ first_value f (codes "changes")
  pub workers : u.values workers_option ≡ first_value f (codes "workers")
  pub names : u.names ≡ unwrap_or (all_of (codes "name") (rows_of f)) []

flags_are : (f : Found) (u t : ArgumentsView) → Has (rows_of f) t → Tells f u → (g : Flag) → u.flags g ≡ t.flags g
flags_are f u t has tells hops_flag = flag_told hops_flag f t (u.flags hops_flag) has tells.hops
flags_are f u t has tells ordered_flag = flag_told ordered_flag f t (u.flags ordered_flag) has tells.ordered
flags_are f u t has tells on_demand_flag = flag_told on_demand_flag f t (u.flags on_demand_flag) has tells.on_demand

values_are : (f : Found) (u t : ArgumentsView) → Has (rows_of f) t → Tells f u → (o : Valued) → u.values o ≡ t.values o
values_are f u t has tells schedule_option = tells.schedule ∙ value_told schedule_option f t has
values_are f u t has tells changes_option = tells.changes ∙ value_told changes_option f t has
values_are f u t has tells workers_option = tells.workers ∙ value_told workers_option f t has

-- what the matches say is what the words say, where the names pass our test
pub told_from : (ws : List Text) (f : Found) (u : ArgumentsView) → list_all is_utf8 ws ≡ true → fault_of app ws ≡ [] → rows_of f ≡ matches_of app ws → Tells f u → told_by ws ≡ checked u
told_from ws f u text none same tells =
    let found = clap_ok ws (rows_of f) text none same in
    found.1 ∙ ap checked (sym (same_told u found.0 (flags_are f u found.0 found.2 tells) (values_are f u found.0 found.2 tells) (tells.names ∙ found.2.names_is)))

pub checked-true : (u : ArgumentsView) → has_names u ≡ true → checked u ≡ Some u
checked-true u fine = rw fine refl
