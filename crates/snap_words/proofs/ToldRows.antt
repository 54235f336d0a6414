-- The rows that `clap` keeps are those of what was told.
use Rattle.std.proofs.Common.{subst, option_map, unwrap_or, ◌≡◌, ◌∙◌, refl, sym, ap, Bool, true, false, cond, List, [], ◌∷◌, ◌++◌, codes, Option, Some, None, is_some, fold, bytes_eq}
use Rattle.std.proofs.lemmas.Slice.Eq.{bytes_eq-Decides}
use Rattle.clap.specs.Words.{Row, Text}
use Rattle.clap.specs.Walk.{all_of, finished, has_row, one_of, reading_by, with_default, with_values}
use Rattle.clap.specs.declared.parser.matches.ValueSource.TheVariants.{CommandLine, DefaultValue}
use Rattle.snap_words.specs.Words.{Flag, ArgumentsView, Valued, flag_text, flagged, hops_flag, is_same_flag, is_same_option, nothing, on_demand_flag, option_text, ordered_flag, schedule_option, valued, with_names}
use Rattle.snap_words.proofs.ClapForm.{Has}
use Rattle.snap_words.proofs.Rows.{all_of-other, all_of-same, has_row-all_of, one_of-other, one_of-same, without-absent}
use Rattle.snap_words.proofs.Turns.{done, flag_built, flag_used, held, name_built, name_id, name_used, option_built, option_used, top}

-- ---- ids
flags_apart : (f g : Flag) → bytes_eq (flag_text f) (flag_text g) ≡ is_same_flag f g
flags_apart hops_flag hops_flag = refl
flags_apart _ hops_flag = refl
flags_apart _ _ = refl

options_apart : (o p : Valued) → bytes_eq (option_text o) (option_text p) ≡ is_same_option o p
options_apart schedule_option schedule_option = refl
options_apart _ schedule_option = refl
options_apart _ _ = refl

flag_not_option : (f : Flag) (o : Valued) → bytes_eq (flag_text f) (option_text o) ≡ false
flag_not_option hops_flag schedule_option = refl
flag_not_option _ schedule_option = refl
flag_not_option _ _ = refl

option_not_flag : (o : Valued) (f : Flag) → bytes_eq (option_text o) (flag_text f) ≡ false
option_not_flag schedule_option hops_flag = refl
option_not_flag _ hops_flag = refl
option_not_flag _ _ = refl

flag_not_name : (f : Flag) → bytes_eq (flag_text f) name_id ≡ false
flag_not_name hops_flag = refl
flag_not_name _ = refl

option_not_name : (o : Valued) → bytes_eq (option_text o) name_id ≡ false
option_not_name schedule_option = refl
option_not_name _ = refl

name_not_flag : (f : Flag) → bytes_eq name_id (flag_text f) ≡ false
name_not_flag hops_flag = refl
name_not_flag _ = refl

name_not_option : (o : Valued) → bytes_eq name_id (option_text o) ≡ false
name_not_option schedule_option = refl
name_not_option _ = refl

itself : (id : Text) → bytes_eq id id ≡ true
itself id = (bytes_eq-Decides id id).1 refl

same_text : (a b : Text) → bytes_eq a b ≡ true → a ≡ b
same_text a b is = (bytes_eq-Decides a b).0 is

-- ---- the rows are those of what was told
-- the text of a flag
abbrev pub flag : Bool → Option Text
flag on = cond on (Some (codes "true")) None

pub record Sim (r : List Row) (t : ArgumentsView) : Type 0 where
  pub flags_are : (f : Flag) → one_of (flag_text f) r ≡ flag (t.flags f)
  pub used_are : (f : Flag) → is_some (all_of (flag_text f) r) ≡ t.flags f
  pub values_are : (o : Valued) → all_of (option_text o) r ≡ option_map (λ v. v ∷ []) (t.values o)
  pub names_is : unwrap_or (all_of name_id r) [] ≡ t.names

no_row : (o : Option (List Text)) → is_some o ≡ false → o ≡ None
no_row None h = refl
no_row (Some vs) h = cc

module _ (f : Flag) (r : List Row) (t : ArgumentsView) (off : t.flags f ≡ false) (s : Sim r t) where
  abbrev id : Text
  id = flag_text f

  no_flag : all_of id r ≡ None
  no_flag = no_row (all_of id r) (s.used_are f ∙ off)

  abbrev put : List Row
  put = with_values id (reading_by (flag_built f)) CommandLine (codes "true" ∷ []) r

  flag_put : flag_used f r ≡ put
  flag_put = ap (with_values id (reading_by (flag_built f)) CommandLine (codes "true" ∷ [])) (without-absent id r no_flag)

  flag_by : (g : Flag) (b : Bool) → is_same_flag f g ≡ b → one_of (flag_text g) put ≡ flag (cond b true (t.flags g))
  flag_by g true is = subst (λ x. one_of x put ≡ Some (codes "true")) (same_text id (flag_text g) (flags_apart f g ∙ is)) (one_of-same id (reading_by (flag_built f)) CommandLine (codes "true") r (itself id) no_flag)
  flag_by g false is = one_of-other id (flag_text g) (reading_by (flag_built f)) CommandLine (codes "true" ∷ []) r (flags_apart f g ∙ is) ∙ s.flags_are g

  used_by : (g : Flag) (b : Bool) → is_same_flag f g ≡ b → is_some (all_of (flag_text g) put) ≡ cond b true (t.flags g)
  used_by g true is = subst (λ x. is_some (all_of x put) ≡ true) (same_text id (flag_text g) (flags_apart f g ∙ is)) (ap is_some (all_of-same id (reading_by (flag_built f)) CommandLine (codes "true" ∷ []) r (itself id)))
  used_by g false is = ap is_some (all_of-other id (flag_text g) (reading_by (flag_built f)) CommandLine (codes "true" ∷ []) r (flags_apart f g ∙ is)) ∙ s.used_are g

  pub sim-flag : Sim (flag_used f r) (flagged t f)
  sim-flag = record {
    flags_are = λ g. ap (one_of (flag_text g)) flag_put ∙ flag_by g _ refl;
    used_are = λ g. ap (λ x. is_some (all_of (flag_text g) x)) flag_put ∙ used_by g _ refl;
    values_are = λ o. ap (all_of (option_text o)) flag_put ∙ all_of-other id (option_text o) (reading_by (flag_built f)) CommandLine (codes "true" ∷ []) r (flag_not_option f o) ∙ s.values_are o;
    names_is = ap (λ o. unwrap_or o []) (ap (all_of name_id) flag_put ∙ all_of-other id name_id (reading_by (flag_built f)) CommandLine (codes "true" ∷ []) r (flag_not_name f)) ∙ s.names_is;
  }

module _ (o : Valued) (v : Text) (r : List Row) (t : ArgumentsView) (off : t.values o ≡ None) (s : Sim r t) where
  abbrev key : Text
  key = option_text o

  no_value : all_of key r ≡ None
  no_value = s.values_are o ∙ ap (option_map (λ v. v ∷ [])) off

  abbrev set : List Row
  set = with_values key (reading_by (option_built o)) CommandLine (v ∷ []) r

  value_set : option_used o v r ≡ set
  value_set = ap (with_values key (reading_by (option_built o)) CommandLine (v ∷ [])) (without-absent key r no_value)

  value_by : (p : Valued) (b : Bool) → is_same_option o p ≡ b → all_of (option_text p) set ≡ option_map (λ v. v ∷ []) (cond b (Some v) (t.values p))
  value_by p true is = subst (λ x. all_of x set ≡ Some (v ∷ [])) (same_text key (option_text p) (options_apart o p ∙ is))
      (all_of-same key (reading_by (option_built o)) CommandLine (v ∷ []) r (itself key) ∙ ap (λ was. Some (unwrap_or was [] ++ v ∷ [])) no_value)
  value_by p false is = all_of-other key (option_text p) (reading_by (option_built o)) CommandLine (v ∷ []) r (options_apart o p ∙ is) ∙ s.values_are p

  pub sim-value : Sim (option_used o v r) (valued t o v)
  sim-value = record {
    flags_are = λ f. ap (one_of (flag_text f)) value_set ∙ one_of-other key (flag_text f) (reading_by (option_built o)) CommandLine (v ∷ []) r (option_not_flag o f) ∙ s.flags_are f;
    used_are = λ f. ap (λ x. is_some (all_of (flag_text f) x)) value_set ∙ ap is_some (all_of-other key (flag_text f) (reading_by (option_built o)) CommandLine (v ∷ []) r (option_not_flag o f)) ∙ s.used_are f;
    values_are = λ p. ap (all_of (option_text p)) value_set ∙ value_by p _ refl;
    names_is = ap (λ o. unwrap_or o []) (ap (all_of name_id) value_set ∙ all_of-other key name_id (reading_by (option_built o)) CommandLine (v ∷ []) r (option_not_name o)) ∙ s.names_is;
  }

pub sim-name : (r : List Row) (t : ArgumentsView) (v : Text) → Sim r t → Sim (name_used v r) (with_names t (v ∷ []))
sim-name r t v s = record {
  flags_are = λ f. one_of-other name_id (flag_text f) (reading_by name_built) CommandLine (v ∷ []) r (name_not_flag f) ∙ s.flags_are f;
  used_are = λ f. ap is_some (all_of-other name_id (flag_text f) (reading_by name_built) CommandLine (v ∷ []) r (name_not_flag f)) ∙ s.used_are f;
  values_are = λ o. all_of-other name_id (option_text o) (reading_by name_built) CommandLine (v ∷ []) r (name_not_option o) ∙ s.values_are o;
  names_is = ap (λ o. unwrap_or o []) (all_of-same name_id (reading_by name_built) CommandLine (v ∷ []) r refl) ∙ ap (λ fs. fs ++ v ∷ []) s.names_is;
}

pub sim-start : Sim [] nothing
sim-start = record { flags_are = λ f. refl; used_are = λ f. refl; values_are = λ o. refl; names_is = refl }

pub flag_there : (f : Flag) (r : List Row) (t : ArgumentsView) (b : Bool) → t.flags f ≡ b → Sim r t → has_row (flag_text f) r ≡ b
flag_there f r t b is s = has_row-all_of (flag_text f) r ∙ s.used_are f ∙ is

pub value_there : (o : Valued) (r : List Row) (t : ArgumentsView) (was : Option Text) → t.values o ≡ was → Sim r t → has_row (option_text o) r ≡ is_some was
value_there o r t was is s = has_row-all_of (option_text o) r ∙ ap is_some (s.values_are o ∙ ap (option_map (λ v. v ∷ [])) is) ∙ one was
  where
    one : (o : Option Text) → is_some (option_map (λ v. v ∷ []) o) ≡ is_some o
    one None = refl
    one (Some v) = refl

-- ---- defaults
-- a flag that isn't there is off
abbrev defaulted : Flag → List Row → List Row
defaulted f r = with_default r (flag_built f)

module _ (f : Flag) (r : List Row) where
  here_by : (b : Bool) → one_of (flag_text f) r ≡ flag b → is_some (all_of (flag_text f) r) ≡ b → has_row (flag_text f) r ≡ b → one_of (flag_text f) (defaulted f r) ≡ Some (cond b (codes "true") (codes "false"))
  here_by true on used there = rw there on
  here_by false off used missing = rw missing (one_of-same (flag_text f) (reading_by (flag_built f)) DefaultValue (codes "false") r (itself (flag_text f)) (no_row (all_of (flag_text f) r) used))

  here : (b : Bool) → one_of (flag_text f) r ≡ flag b → is_some (all_of (flag_text f) r) ≡ b → one_of (flag_text f) (defaulted f r) ≡ Some (cond b (codes "true") (codes "false"))
  here b is used = here_by b is used (has_row-all_of (flag_text f) r ∙ used)

  module _ (id : Text) (apart : bytes_eq (flag_text f) id ≡ false) where
    one_by : (b : Bool) → has_row (flag_text f) r ≡ b → one_of id (defaulted f r) ≡ one_of id r
    one_by true there = rw there refl
    one_by false missing = rw missing (one_of-other (flag_text f) id (reading_by (flag_built f)) DefaultValue (codes "false" ∷ []) r apart)

    all_by : (b : Bool) → has_row (flag_text f) r ≡ b → all_of id (defaulted f r) ≡ all_of id r
    all_by true there = rw there refl
    all_by false missing = rw missing (all_of-other (flag_text f) id (reading_by (flag_built f)) DefaultValue (codes "false" ∷ []) r apart)

    one_elsewhere : one_of id (defaulted f r) ≡ one_of id r
    one_elsewhere = one_by _ refl

    all_elsewhere : all_of id (defaulted f r) ≡ all_of id r
    all_elsewhere = all_by _ refl

unchanged : (b : Bool) (r : List Row) → cond b r r ≡ r
unchanged true r = refl
unchanged false r = refl

-- the rows with the defaults of the first two flags, and of all
abbrev both : List Row → List Row
both r = defaulted ordered_flag (defaulted hops_flag r)

abbrev whole : List Row → List Row
whole r = defaulted on_demand_flag (both r)

-- only flags have a default
only_flags : (r : List Row) → fold with_default r top.rules ≡ whole r
only_flags r = rw (unchanged (has_row (codes "schedule") (whole r)) (whole r), unchanged (has_row (codes "changes") (whole r)) (whole r), unchanged (has_row (codes "workers") (whole r)) (whole r), unchanged (has_row name_id (whole r)) (whole r)) refl

module _ (r : List Row) (t : ArgumentsView) (s : Sim r t) where
  all_in_both : (id : Text) → bytes_eq (flag_text ordered_flag) id ≡ false → bytes_eq (flag_text hops_flag) id ≡ false → all_of id (both r) ≡ all_of id r
  all_in_both id ordered hops = all_elsewhere ordered_flag (defaulted hops_flag r) id ordered ∙ all_elsewhere hops_flag r id hops

  one_in_both : (id : Text) → bytes_eq (flag_text ordered_flag) id ≡ false → bytes_eq (flag_text hops_flag) id ≡ false → one_of id (both r) ≡ one_of id r
  one_in_both id ordered hops = one_elsewhere ordered_flag (defaulted hops_flag r) id ordered ∙ one_elsewhere hops_flag r id hops

  flags_whole : (f : Flag) → one_of (flag_text f) (whole r) ≡ Some (cond (t.flags f) (codes "true") (codes "false"))
  flags_whole hops_flag = one_elsewhere on_demand_flag (both r) (flag_text hops_flag) refl ∙ one_elsewhere ordered_flag (defaulted hops_flag r) (flag_text hops_flag) refl ∙ here hops_flag r (t.flags hops_flag) (s.flags_are hops_flag) (s.used_are hops_flag)
  flags_whole ordered_flag = one_elsewhere on_demand_flag (both r) (flag_text ordered_flag) refl
      ∙ here ordered_flag (defaulted hops_flag r) (t.flags ordered_flag) (one_elsewhere hops_flag r (flag_text ordered_flag) refl ∙ s.flags_are ordered_flag) (ap is_some (all_elsewhere hops_flag r (flag_text ordered_flag) refl) ∙ s.used_are ordered_flag)
  flags_whole on_demand_flag = here on_demand_flag (both r) (t.flags on_demand_flag) (one_in_both (flag_text on_demand_flag) refl refl ∙ s.flags_are on_demand_flag) (ap is_some (all_in_both (flag_text on_demand_flag) refl refl) ∙ s.used_are on_demand_flag)

  elsewhere : (id : Text) → bytes_eq (flag_text on_demand_flag) id ≡ false → bytes_eq (flag_text ordered_flag) id ≡ false → bytes_eq (flag_text hops_flag) id ≡ false → all_of id (whole r) ≡ all_of id r
  elsewhere id on_demand ordered hops = all_elsewhere on_demand_flag (both r) id on_demand ∙ all_in_both id ordered hops

  has-whole : Has (whole r) t
  has-whole = record {
    flags_are = flags_whole;
    values_are = λ o. elsewhere (option_text o) (flag_not_option on_demand_flag o) (flag_not_option ordered_flag o) (flag_not_option hops_flag o) ∙ s.values_are o;
    names_is = ap (λ o. unwrap_or o []) (elsewhere name_id refl refl refl) ∙ s.names_is;
  }

pub has-final : (r : List Row) (q : Option (Text × List Text)) (t : ArgumentsView) → Sim (done r q) t → Has (finished top.rules (held r q)) t
has-final r q t s = let P : List Row → Type 0 = λ x. Has x t in subst P (sym (only_flags (done r q))) (has-whole (done r q) t s)
