-- What `clap` makes of one word, where it stands between two words.
use Rattle.std.proofs.Common.{◌≡◌, refl, Bool, true, false, cond, List, [], ◌∷◌, codes, ℕ, Option, Some, None, slice_get}
use Rattle.std.specs.Str.{bytes_eq, chars}
use Rattle.std.specs.Char.{encode_utf8}
use Rattle.std.proofs.Math.Bool.{and-false}
use Rattle.clap.specs.Words.{Row, Rule, Shape, Text, built}
use Rattle.clap.specs.Lexer.{long_of, short_of}
use Rattle.clap.specs.Kinds.{Kinds, or_else}
use Rattle.clap.specs.Faults.{defaults_fault, flags_fault, settle_fault, turn_fault, walk_fault}
use Rattle.clap.specs.Takes.{flags_pass, walk_passes}
use Rattle.clap.specs.Simple.{filled, with_index}
use Rattle.clap.specs.Walk.{Held, Walk, Waiting, bundle_met, has_row, idle, option, positional, reading_by, settled, walked, with_values, without}
use Rattle.clap.specs.declared.parser.matches.ValueSource.TheVariants.{CommandLine}
use Rattle.clap.specs.declared.error.kind.ErrorKind.TheVariants.{ArgumentConflict, InvalidValue, UnknownArgument, TooManyValues}
use Rattle.clap.proofs.OnLiterals.{clap_on_literals}
use Rattle.snap_words.specs.Clap.{app, flag_rule, name_rule, option_rule}
use Rattle.snap_words.specs.Words.{Flag, Valued, flag_text, hops_flag, option_text, schedule_option}

abbrev pub top : Shape
top = (built app).top

abbrev pub name_id : Text
name_id = codes "name"

abbrev pub held : List Row → Option (Text × List Text) → Held
held rows pending = record { rows = rows; pending = pending; skip = 0 }

abbrev pub rest : Bool → Waiting
rest true = positional
rest false = idle

abbrev pub at : Held → Bool → Bool → Walk
at h p trails = record { held = h; waiting = rest p; position = 1; is_trailing = trails; stopped = None }

-- the walk behind an option that waits for its value
abbrev pub waits : Valued → List Row → Bool → Walk
waits o r trails = record { held = held r (Some (option_text o, [])); waiting = option (option_text o); position = 1; is_trailing = trails; stopped = None }

abbrev pub settles : List Row → Option (Text × List Text) → Kinds
settles r q = settle_fault top.rules false (held r q)

-- the rows once what is pending is used
abbrev pub done : List Row → Option (Text × List Text) → List Row
done r q = (settled top.rules (held r q)).rows

abbrev pub flag_built : Flag → Rule
flag_built f = filled (flag_rule (flag_text f))

abbrev pub option_built : Valued → Rule
option_built o = filled (option_rule (option_text o))

abbrev pub name_built : Rule
name_built = with_index 1 (filled name_rule)

abbrev pub flag_used : Flag → List Row → List Row
flag_used f r = with_values (flag_text f) (reading_by (flag_built f)) CommandLine (codes "true" ∷ []) (without (flag_text f) r)

abbrev pub option_used : Valued → Text → List Row → List Row
option_used o v r = with_values (option_text o) (reading_by (option_built o)) CommandLine (v ∷ []) (without (option_text o) r)

abbrev pub name_used : Text → List Row → List Row
name_used v r = with_values name_id (reading_by name_built) CommandLine (v ∷ []) r

abbrev pub twice : Bool → Kinds
twice b = cond b (ArgumentConflict ∷ []) []

-- the name of no option
pub record IsUnknown (name : Text) : Type 0 where
  pub no_hops : bytes_eq (codes "hops") name ≡ false
  pub no_ordered : bytes_eq (codes "ordered") name ≡ false
  pub no_on_demand : bytes_eq (codes "on-demand") name ≡ false
  pub no_schedule : bytes_eq (codes "schedule") name ≡ false
  pub no_changes : bytes_eq (codes "changes") name ≡ false
  pub no_workers : bytes_eq (codes "workers") name ≡ false

module _ (r : List Row) (q : Option (Text × List Text)) (w : Text) (single : bytes_eq w (codes "--") ≡ false) where
  pub flag_turn : (f : Flag) (p b : Bool) → long_of w ≡ Some (flag_text f, None) → has_row (flag_text f) (done r q) ≡ b → turn_fault top [] (at (held r q) p false) w ≡ or_else (or_else (settles r q) (twice b)) []
  unfolding clap_on_literals
  flag_turn hops_flag true true long has = rw (single, long, has) refl
  flag_turn _ true true long has = rw (single, long, has) refl
  flag_turn _ _ true long has = rw (single, long, has) refl
  flag_turn _ _ _ long has = rw (single, long, has) refl

  pub flag_moves : (f : Flag) (p : Bool) → long_of w ≡ Some (flag_text f, None) → walked top.rules [] (at (held r q) p false) w ≡ at (held (flag_used f (done r q)) None) false false
  unfolding clap_on_literals
  flag_moves hops_flag true long = rw (single, long) refl
  flag_moves _ true long = rw (single, long) refl
  flag_moves _ _ long = rw (single, long) refl

  pub flag_valued : (f : Flag) (p : Bool) (v : Text) → long_of w ≡ Some (flag_text f, Some v) → turn_fault top [] (at (held r q) p false) w ≡ TooManyValues ∷ []
  unfolding clap_on_literals
  flag_valued hops_flag true v long = rw (single, long) refl
  flag_valued _ true v long = rw (single, long) refl
  flag_valued _ _ v long = rw (single, long) refl

  pub wait_turn : (o : Valued) (p : Bool) → long_of w ≡ Some (option_text o, None) → turn_fault top [] (at (held r q) p false) w ≡ or_else (settles r q) []
  unfolding clap_on_literals
  wait_turn schedule_option true long = rw (single, long) refl
  wait_turn _ true long = rw (single, long) refl
  wait_turn _ _ long = rw (single, long) refl

  pub wait_moves : (o : Valued) (p : Bool) → long_of w ≡ Some (option_text o, None) → walked top.rules [] (at (held r q) p false) w ≡ waits o (done r q) false
  unfolding clap_on_literals
  wait_moves schedule_option true long = rw (single, long) refl
  wait_moves _ true long = rw (single, long) refl
  wait_moves _ _ long = rw (single, long) refl

  pub value_turn : (o : Valued) (p b : Bool) (v : Text) → long_of w ≡ Some (option_text o, Some v) → has_row (option_text o) (done r q) ≡ b → turn_fault top [] (at (held r q) p false) w ≡ or_else (or_else (settles r q) (twice b)) []
  unfolding clap_on_literals
  value_turn schedule_option true true v long has = rw (single, long, has) refl
  value_turn _ true true v long has = rw (single, long, has) refl
  value_turn _ _ true v long has = rw (single, long, has) refl
  value_turn _ _ _ v long has = rw (single, long, has) refl

  pub value_moves : (o : Valued) (p : Bool) (v : Text) → long_of w ≡ Some (option_text o, Some v) → walked top.rules [] (at (held r q) p false) w ≡ at (held (option_used o v (done r q)) None) false false
  unfolding clap_on_literals
  value_moves schedule_option true v long = rw (single, long) refl
  value_moves _ true v long = rw (single, long) refl
  value_moves _ _ v long = rw (single, long) refl

  pub long_turn : (p : Bool) (name : Text) (v : Option Text) → long_of w ≡ Some (name, v) → IsUnknown name → turn_fault top [] (at (held r q) p false) w ≡ UnknownArgument ∷ []
  unfolding clap_on_literals
  long_turn true name v long u = rw (single, long, u.no_hops, u.no_ordered, u.no_on_demand, u.no_schedule, u.no_changes, u.no_workers) refl
  long_turn false name v long u = rw (single, long, u.no_hops, u.no_ordered, u.no_on_demand, u.no_schedule, u.no_changes, u.no_workers) refl

  pub short_turn : (p : Bool) (y : ℕ) (ys : Text) (c : ℕ) → long_of w ≡ None → short_of w ≡ Some (y ∷ ys) → slice_get (chars (y ∷ ys)) 0 ≡ Some c → turn_fault top [] (at (held r q) p false) w ≡ UnknownArgument ∷ []
  unfolding walked bundle_met encode_utf8 flags_pass walk_passes flags_fault walk_fault defaults_fault
  short_turn true y ys c long short first = rw (single, long, short, first) refl
  short_turn false y ys c long short first = rw (single, long, short, first) refl

  pub name_turn : (p : Bool) → long_of w ≡ None → short_of w ≡ None → turn_fault top [] (at (held r q) p false) w ≡ settles r q
  unfolding clap_on_literals
  name_turn true long short = rw (single, long, short, and-false) refl
  name_turn false long short = rw (single, long, short, and-false) refl

  pub name_moves : (p : Bool) → long_of w ≡ None → short_of w ≡ None → walked top.rules [] (at (held r q) p false) w ≡ at (held (done r q) (Some (name_id, w ∷ []))) true false
  unfolding clap_on_literals
  name_moves true long short = rw (single, long, short, and-false) refl
  name_moves false long short = rw (single, long, short, and-false) refl

pub trail_turn : (r : List Row) (q : Option (Text × List Text)) (p : Bool) (w : Text) → turn_fault top [] (at (held r q) p true) w ≡ settles r q
unfolding clap_on_literals
trail_turn r q true w = rw and-false refl
trail_turn r q false w = rw and-false refl

pub trail_moves : (r : List Row) (q : Option (Text × List Text)) (p : Bool) (w : Text) → walked top.rules [] (at (held r q) p true) w ≡ at (held (done r q) (Some (name_id, w ∷ []))) true true
unfolding clap_on_literals
trail_moves r q true w = rw and-false refl
trail_moves r q false w = rw and-false refl

pub dashes_turn : (r : List Row) (q : Option (Text × List Text)) (p : Bool) (w : Text) → bytes_eq w (codes "--") ≡ true → turn_fault top [] (at (held r q) p false) w ≡ []
unfolding clap_on_literals
dashes_turn r q true w is = rw is refl
dashes_turn r q false w is = rw is refl

pub dashes_moves : (r : List Row) (q : Option (Text × List Text)) (p : Bool) (w : Text) → bytes_eq w (codes "--") ≡ true → walked top.rules [] (at (held r q) p false) w ≡ at (held r q) p true
unfolding clap_on_literals
dashes_moves r q true w is = rw is refl
dashes_moves r q false w is = rw is refl

pub name_settles : (r : List Row) (v : Text) → settles r (Some (name_id, v ∷ [])) ≡ []
unfolding clap_on_literals
name_settles r v = refl

pub name_done : (r : List Row) (v : Text) → done r (Some (name_id, v ∷ [])) ≡ name_used v r
unfolding clap_on_literals
name_done r v = refl

-- ---- where an option waits
module _ (r : List Row) (w : Text) where
  pub got_turn : (o : Valued) → bytes_eq w (codes "--") ≡ false → long_of w ≡ None → short_of w ≡ None → turn_fault top [] (waits o r false) w ≡ []
  unfolding clap_on_literals
  got_turn schedule_option single long short = rw (single, long, short) refl
  got_turn _ single long short = rw (single, long, short) refl

  pub got_moves : (o : Valued) → bytes_eq w (codes "--") ≡ false → long_of w ≡ None → short_of w ≡ None → walked top.rules [] (waits o r false) w ≡ at (held r (Some (option_text o, w ∷ []))) false false
  unfolding clap_on_literals
  got_moves schedule_option single long short = rw (single, long, short) refl
  got_moves _ single long short = rw (single, long, short) refl

  pub val_settles : (o : Valued) (b : Bool) → has_row (option_text o) r ≡ b → settles r (Some (option_text o, w ∷ [])) ≡ twice b
  unfolding clap_on_literals
  val_settles schedule_option true has = rw has refl
  val_settles _ true has = rw has refl
  val_settles _ _ has = rw has refl

  pub val_done : (o : Valued) → done r (Some (option_text o, w ∷ [])) ≡ option_used o w r
  unfolding clap_on_literals
  val_done schedule_option = refl
  val_done _ = refl

  pub wait_dashes_turn : (o : Valued) → bytes_eq w (codes "--") ≡ true → turn_fault top [] (waits o r false) w ≡ []
  unfolding clap_on_literals
  wait_dashes_turn schedule_option is = rw is refl
  wait_dashes_turn _ is = rw is refl

  pub wait_dashes_moves : (o : Valued) → bytes_eq w (codes "--") ≡ true → walked top.rules [] (waits o r false) w ≡ waits o r true
  unfolding clap_on_literals
  wait_dashes_moves schedule_option is = rw is refl
  wait_dashes_moves _ is = rw is refl

  pub wait_trail_turn : (o : Valued) → turn_fault top [] (waits o r true) w ≡ InvalidValue ∷ []
  unfolding clap_on_literals
  wait_trail_turn schedule_option = refl
  wait_trail_turn _ = refl

-- and gets no value
module _ (r : List Row) (w : Text) (single : bytes_eq w (codes "--") ≡ false) where
  pub wait_flag : (o : Valued) (f : Flag) → long_of w ≡ Some (flag_text f, None) → turn_fault top [] (waits o r false) w ≡ InvalidValue ∷ []
  unfolding clap_on_literals
  wait_flag schedule_option hops_flag long = rw (single, long) refl
  wait_flag _ hops_flag long = rw (single, long) refl
  wait_flag _ _ long = rw (single, long) refl

  pub wait_flag_valued : (o : Valued) (f : Flag) (v : Text) → long_of w ≡ Some (flag_text f, Some v) → turn_fault top [] (waits o r false) w ≡ TooManyValues ∷ []
  unfolding clap_on_literals
  wait_flag_valued schedule_option hops_flag v long = rw (single, long) refl
  wait_flag_valued _ hops_flag v long = rw (single, long) refl
  wait_flag_valued _ _ v long = rw (single, long) refl

  pub wait_option : (o p : Valued) → long_of w ≡ Some (option_text p, None) → turn_fault top [] (waits o r false) w ≡ InvalidValue ∷ []
  unfolding clap_on_literals
  wait_option schedule_option schedule_option long = rw (single, long) refl
  wait_option _ schedule_option long = rw (single, long) refl
  wait_option _ _ long = rw (single, long) refl

  pub wait_option_valued : (o p : Valued) (v : Text) → long_of w ≡ Some (option_text p, Some v) → turn_fault top [] (waits o r false) w ≡ InvalidValue ∷ []
  unfolding clap_on_literals
  wait_option_valued schedule_option schedule_option v long = rw (single, long) refl
  wait_option_valued _ schedule_option v long = rw (single, long) refl
  wait_option_valued _ _ v long = rw (single, long) refl

  pub wait_long : (o : Valued) (name : Text) (v : Option Text) → long_of w ≡ Some (name, v) → IsUnknown name → turn_fault top [] (waits o r false) w ≡ UnknownArgument ∷ []
  unfolding clap_on_literals
  wait_long schedule_option name v long u = rw (single, long, u.no_hops, u.no_ordered, u.no_on_demand, u.no_schedule, u.no_changes, u.no_workers) refl
  wait_long _ name v long u = rw (single, long, u.no_hops, u.no_ordered, u.no_on_demand, u.no_schedule, u.no_changes, u.no_workers) refl

  pub wait_short : (o : Valued) (y : ℕ) (ys : Text) (c : ℕ) → long_of w ≡ None → short_of w ≡ Some (y ∷ ys) → slice_get (chars (y ∷ ys)) 0 ≡ Some c → turn_fault top [] (waits o r false) w ≡ UnknownArgument ∷ []
  unfolding walked bundle_met encode_utf8 flags_pass walk_passes flags_fault walk_fault defaults_fault
  wait_short schedule_option y ys c long short first = rw (single, long, short, first) refl
  wait_short _ y ys c long short first = rw (single, long, short, first) refl
