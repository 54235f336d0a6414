-- What `clap` makes of all the words: it takes them exactly where they are of its form.
use Rattle.std.proofs.Common.{option_and_then, MatchOption, subst, append_assoc, append-nil, ◌≡◌, ◌∙◌, refl, sym, ap, Bool, true, false, cond, List, [], ◌∷◌, codes, Option, Some, None, is_some, IsUtf8, bytes_eq}
use Rattle.clap.specs.Words.{matches_of, Row, Text, built, fault_of}
use Rattle.clap.specs.Lexer.{long_of, short_of}
use Rattle.clap.specs.Kinds.{or_else}
use Rattle.clap.specs.Faults.{entered_fault, level_fault, turn_fault}
use Rattle.clap.specs.Simple.{entered}
use Rattle.clap.specs.Walk.{Walk, finished, has_row, nothing_held, walk_from, walked}
use Rattle.clap.specs.declared.error.kind.ErrorKind.TheVariants.{ArgumentConflict, InvalidValue, UnknownArgument, TooManyValues}
use Rattle.snap_words.specs.Clap.{app}
use Rattle.snap_words.specs.Words.{Flag, ArgumentsView, Valued, Word, end_of_options, flag_text, flagged, nothing, option_text, option_with, valued, with_names}
use Rattle.snap_words.proofs.ClapForm.{Has, after, long_met, read}
use Rattle.snap_words.proofs.Names.{Named, a_flag, an_option, flag_says, flag_takes_none, named, option_says, unknown, unknown_says, value_says}
use Rattle.snap_words.proofs.Shapes.{AllText, first_char, short_text}
use Rattle.snap_words.proofs.Turns.{at, dashes_moves, dashes_turn, done, flag_moves, flag_turn, flag_used, flag_valued, got_moves, got_turn, held, long_turn, name_done, name_id, name_moves, name_settles, name_turn, option_used, settles, top, trail_moves, trail_turn, twice, val_done, val_settles, value_moves, value_turn, wait_dashes_moves, wait_dashes_turn, wait_flag, wait_flag_valued, wait_long, wait_moves, wait_option, wait_option_valued, wait_short, wait_trail_turn, wait_turn, waits}
use Rattle.snap_words.proofs.Faults.{fault, final, fault-more, fault-none, ends, waits-ends, fails}
use Rattle.snap_words.proofs.ToldRows.{Sim, flag_there, has-final, sim-flag, sim-name, sim-start, sim-value, value_there}
use Rattle.snap_words.proofs.Settled.{short_by, owes}

abbrev Comes : Walk → List Text → Option ArgumentsView → Type 0
Comes w words o = MatchOption o (fault w words ≡ [] → ⊥) (λ t. (fault w words ≡ []) × Has (final w words) t)

turn : (w v : Walk) (x : Text) (xs : List Text) (o : Option ArgumentsView) → turn_fault top [] w x ≡ [] → walked top.rules [] w x ≡ v → Comes v xs o → Comes w (x ∷ xs) o
turn w v x xs o passes goes h = go o (fault-more w x xs ∙ ap (λ k. or_else k (fault (walked top.rules [] w x) xs)) passes ∙ ap (λ u. fault u xs) goes) (ap (λ u. final u xs) goes) h
  where
    go : (o : Option ArgumentsView) → fault w (x ∷ xs) ≡ fault v xs → final w (x ∷ xs) ≡ final v xs → Comes v xs o → Comes w (x ∷ xs) o
    go None same rows h = λ none. h (sym same ∙ none)
    go (Some t) same rows h = (same ∙ h.0, let P : List Row → Type 0 = λ r. Has r t in subst P (sym rows) h.1)

trails-come : (ws : List Text) (r : List Row) (q : Option (Text × List Text)) (p : Bool) (t : ArgumentsView) → settles r q ≡ [] → Sim (done r q) t
    → Comes (at (held r q) p true) ws (Some (with_names t ws))
trails-come [] r q p t fine s = (fault-none (at (held r q) p true) ∙ ends r q ∙ fine, let P : List Text → Type 0 = λ fs. Has (finished top.rules (held r q)) (record t { names = fs }) in subst P (sym (append-nil t.names)) (has-final r q t s))
trails-come (w ∷ ws) r q p t fine s =
    let P : List Row → Type 0 = λ x. Sim x (with_names t (w ∷ [])) in
    let next = trails-come ws (done r q) (Some (name_id, w ∷ [])) true (with_names t (w ∷ [])) (name_settles (done r q) w) (subst P (sym (name_done (done r q) w)) (sim-name (done r q) t w s)) in
    let Q : List Text → Type 0 = λ fs. Comes (at (held r q) p true) (w ∷ ws) (Some (record t { names = fs })) in
    subst Q (append_assoc t.names (w ∷ []) ws) (turn (at (held r q) p true) (at (held (done r q) (Some (name_id, w ∷ []))) true true) w ws (Some (with_names (with_names t (w ∷ [])) ws)) (trail_turn r q p w ∙ fine) (trail_moves r q p w) next)

-- ---- the claims

abbrev AtClaim : List Text → Type 0
AtClaim ws = (r : List Row) (q : Option (Text × List Text)) (p : Bool) (t : ArgumentsView) → settles r q ≡ [] → Sim (done r q) t → Comes (at (held r q) p false) ws (read ws None t)

abbrev WaitClaim : List Text → Type 0
WaitClaim ws = (o : Valued) (r : List Row) (t : ArgumentsView) → Sim r t → Comes (waits o r false) ws (read ws (Some o) t)

-- ---- where no option waits
-- `--FLAG`
flag-step : (w : Text) (ws : List Text) (f : Flag) (r : List Row) (q : Option (Text × List Text)) (p : Bool) (t : ArgumentsView) (b : Bool) → t.flags f ≡ b → bytes_eq w (codes "--") ≡ false → long_of w ≡ Some (flag_text f, None)
    → AtClaim ws → settles r q ≡ [] → Sim (done r q) t → Comes (at (held r q) p false) (w ∷ ws) (option_and_then (read ws None) (cond b None (Some (flagged t f))))
flag-step w ws f r q p t true on single long next fine s =
    let there : has_row (flag_text f) (done r q) ≡ true = flag_there f (done r q) t true on s in
    fails (at (held r q) p false) w ws ArgumentConflict (flag_turn r q w single f p true long there ∙ ap (λ k. or_else (or_else k (twice true)) []) fine)
flag-step w ws f r q p t false off single long next fine s =
    let missing : has_row (flag_text f) (done r q) ≡ false = flag_there f (done r q) t false off s in
    turn (at (held r q) p false) (at (held (flag_used f (done r q)) None) false false) w ws (read ws None (flagged t f)) (flag_turn r q w single f p false long missing ∙ ap (λ k. or_else (or_else k (twice false)) []) fine)
    (flag_moves r q w single f p long) (next (flag_used f (done r q)) None false (flagged t f) refl (sim-flag f (done r q) t off s))

-- `--OPTION=VALUE`
value-step : (w : Text) (ws : List Text) (o : Valued) (v : Text) (r : List Row) (q : Option (Text × List Text)) (p : Bool) (t : ArgumentsView) (was : Option Text) → t.values o ≡ was → bytes_eq w (codes "--") ≡ false → long_of w ≡ Some (option_text o, Some v)
    → AtClaim ws → settles r q ≡ [] → Sim (done r q) t → Comes (at (held r q) p false) (w ∷ ws) (option_and_then (read ws None) (cond (is_some was) None (Some (valued t o v))))
value-step w ws o v r q p t (Some u) on single long next fine s =
    let there : has_row (option_text o) (done r q) ≡ true = value_there o (done r q) t (Some u) on s in
    fails (at (held r q) p false) w ws ArgumentConflict (value_turn r q w single o p true v long there ∙ ap (λ k. or_else (or_else k (twice true)) []) fine)
value-step w ws o v r q p t None off single long next fine s =
    let missing : has_row (option_text o) (done r q) ≡ false = value_there o (done r q) t None off s in
    turn (at (held r q) p false) (at (held (option_used o v (done r q)) None) false false) w ws (read ws None (valued t o v)) (value_turn r q w single o p false v long missing ∙ ap (λ k. or_else (or_else k (twice false)) []) fine)
    (value_moves r q w single o p v long) (next (option_used o v (done r q)) None false (valued t o v) refl (sim-value o v (done r q) t off s))

module _ (w : Text) (ws : List Text) (r : List Row) (q : Option (Text × List Text)) (p : Bool) (t : ArgumentsView) (single : bytes_eq w (codes "--") ≡ false) (next : AtClaim ws) (waiting : WaitClaim ws) (fine : settles r q ≡ []) (sim : Sim (done r q) t) where
  abbrev Goes : Option Word → Type 0
  Goes m = Comes (at (held r q) p false) (w ∷ ws) (after None m t w ws (read ws))

  flag-named : (f : Flag) (v : Option Text) → long_of w ≡ Some (flag_text f, v) → Goes (option_with (flag_text f) v)
  flag-named f (Some v) long = subst Goes (sym (flag_takes_none f v)) (fails (at (held r q) p false) w ws TooManyValues (flag_valued r q w single f p v long))
  flag-named f None long = subst Goes (sym (flag_says f)) (flag-step w ws f r q p t _ refl single long next fine sim)

  option-named : (o : Valued) (v : Option Text) → long_of w ≡ Some (option_text o, v) → Goes (option_with (option_text o) v)
  option-named o (Some v) long = subst Goes (sym (value_says o v)) (value-step w ws o v r q p t _ refl single long next fine sim)
  option-named o None long = subst Goes (sym (option_says o))
      (turn (at (held r q) p false) (waits o (done r q) false) w ws (read ws (Some o) t) (wait_turn r q w single o p long ∙ ap (λ k. or_else k []) fine) (wait_moves r q w single o p long) (waiting o (done r q) t sim))

  named-step : (name : Text) (v : Option Text) → Named name → long_of w ≡ Some (name, v) → Goes (option_with name v)
  named-step name v (a_flag f is) long = subst (λ n. Goes (option_with n v)) (sym is) (flag-named f v (long ∙ ap (λ n. Some (n, v)) is))
  named-step name v (an_option o is) long = subst (λ n. Goes (option_with n v)) (sym is) (option-named o v (long ∙ ap (λ n. Some (n, v)) is))
  named-step name v (unknown u) long = subst Goes (sym (unknown_says name v u)) (fails (at (held r q) p false) w ws UnknownArgument (long_turn r q w single p name v long u))

  word-step : (l : Option (Text × Option Text)) (f : Option Text) → IsUtf8 w → long_of w ≡ l → short_of w ≡ f → Goes (long_met l f)
  word-step (Some n) f text long short = named-step n.0 n.1 (named n.0) long
  word-step None (Some f) text long short = fails (at (held r q) p false) w ws UnknownArgument (short_by r q p w f single long short (short_text w f text short))
  word-step None None text long short =
      let P : List Row → Type 0 = λ x. Sim x (with_names t (w ∷ [])) in
      turn (at (held r q) p false) (at (held (done r q) (Some (name_id, w ∷ []))) true false) w ws (read ws None (with_names t (w ∷ []))) (name_turn r q w single p long short ∙ fine) (name_moves r q w single p long short)
      (next (done r q) (Some (name_id, w ∷ [])) true (with_names t (w ∷ [])) (name_settles (done r q) w) (subst P (sym (name_done (done r q) w)) (sim-name (done r q) t w sim)))

at-step : (w : Text) (ws : List Text) (r : List Row) (q : Option (Text × List Text)) (p : Bool) (t : ArgumentsView) (b : Bool) → IsUtf8 w → bytes_eq w (codes "--") ≡ b → AtClaim ws → WaitClaim ws → settles r q ≡ [] → Sim (done r q) t
    → Comes (at (held r q) p false) (w ∷ ws) (after None (cond b (Some end_of_options) (long_met (long_of w) (short_of w))) t w ws (read ws))
at-step w ws r q p t true text is next waiting fine sim = turn (at (held r q) p false) (at (held r q) p true) w ws (Some (with_names t ws)) (dashes_turn r q p w is) (dashes_moves r q p w is) (trails-come ws r q p t fine sim)
at-step w ws r q p t false text is next waiting fine sim = word-step w ws r q p t is next waiting fine sim _ _ text refl refl

-- ---- where an option waits
-- and gets no value
trails-wait : (ws : List Text) (o : Valued) (r : List Row) → fault (waits o r true) ws ≡ [] → ⊥
trails-wait [] o r none = let e : InvalidValue ∷ [] ≡ [] = sym (fault-none (waits o r true) ∙ waits-ends o r true) ∙ none in cc
trails-wait (w ∷ ws) o r none = fails (waits o r true) w ws InvalidValue (wait_trail_turn r w o) none

wait-short : (o : Valued) (r : List Row) (w : Text) (ws : List Text) (f : Text) → bytes_eq w (codes "--") ≡ false → long_of w ≡ None → short_of w ≡ Some f → IsUtf8 f × ((f ≡ []) → ⊥) → fault (waits o r false) (w ∷ ws) ≡ [] → ⊥
wait-short o r w ws [] single long short text none = text.1 refl
wait-short o r w ws (y ∷ ys) single long short text none = let c = first_char y ys _ refl text.0 in fails (waits o r false) w ws UnknownArgument (wait_short r w single o y ys c.0 long short c.1) none

-- the value
got-step : (w : Text) (ws : List Text) (o : Valued) (r : List Row) (t : ArgumentsView) (was : Option Text) → t.values o ≡ was → AllText ws → bytes_eq w (codes "--") ≡ false → long_of w ≡ None → short_of w ≡ None → AtClaim ws → Sim r t
    → Comes (waits o r false) (w ∷ ws) (option_and_then (read ws None) (cond (is_some was) None (Some (valued t o w))))
got-step w ws o r t (Some u) on text single long short next s =
    let there : has_row (option_text o) r ≡ true = value_there o r t (Some u) on s in
    turn (waits o r false) (at (held r (Some (option_text o, w ∷ []))) false false) w ws None (got_turn r w o single long short) (got_moves r w o single long short)
    (λ none. let e : ArgumentConflict ∷ [] ≡ [] = sym (val_settles r w o true there) ∙ owes ws text r (Some (option_text o, w ∷ [])) false none in cc)
got-step w ws o r t None off text single long short next s =
    let missing : has_row (option_text o) r ≡ false = value_there o r t None off s in
    let P : List Row → Type 0 = λ x. Sim x (valued t o w) in
    turn (waits o r false) (at (held r (Some (option_text o, w ∷ []))) false false) w ws (read ws None (valued t o w)) (got_turn r w o single long short) (got_moves r w o single long short)
    (next r (Some (option_text o, w ∷ [])) false (valued t o w) (val_settles r w o false missing) (subst P (sym (val_done r w o)) (sim-value o w r t off s)))

module _ (w : Text) (ws : List Text) (o : Valued) (r : List Row) (t : ArgumentsView) (single : bytes_eq w (codes "--") ≡ false) where
  abbrev Waits : Option Word → Type 0
  Waits m = Comes (waits o r false) (w ∷ ws) (after (Some o) m t w ws (read ws))

  wait-flag-named : (f : Flag) (v : Option Text) → long_of w ≡ Some (flag_text f, v) → Waits (option_with (flag_text f) v)
  wait-flag-named f (Some v) long = subst Waits (sym (flag_takes_none f v)) (fails (waits o r false) w ws TooManyValues (wait_flag_valued r w single o f v long))
  wait-flag-named f None long = subst Waits (sym (flag_says f)) (fails (waits o r false) w ws InvalidValue (wait_flag r w single o f long))

  wait-option-named : (p : Valued) (v : Option Text) → long_of w ≡ Some (option_text p, v) → Waits (option_with (option_text p) v)
  wait-option-named p (Some v) long = subst Waits (sym (value_says p v)) (fails (waits o r false) w ws InvalidValue (wait_option_valued r w single o p v long))
  wait-option-named p None long = subst Waits (sym (option_says p)) (fails (waits o r false) w ws InvalidValue (wait_option r w single o p long))

  wait-named : (name : Text) (v : Option Text) → Named name → long_of w ≡ Some (name, v) → Waits (option_with name v)
  wait-named name v (a_flag f is) long = subst (λ n. Waits (option_with n v)) (sym is) (wait-flag-named f v (long ∙ ap (λ n. Some (n, v)) is))
  wait-named name v (an_option p is) long = subst (λ n. Waits (option_with n v)) (sym is) (wait-option-named p v (long ∙ ap (λ n. Some (n, v)) is))
  wait-named name v (unknown u) long = subst Waits (sym (unknown_says name v u)) (fails (waits o r false) w ws UnknownArgument (wait_long r w single o name v long u))

  wait-word : (l : Option (Text × Option Text)) (f : Option Text) → AllText (w ∷ ws) → long_of w ≡ l → short_of w ≡ f → AtClaim ws → Sim r t → Waits (long_met l f)
  wait-word (Some n) f text long short next s = wait-named n.0 n.1 (named n.0) long
  wait-word None (Some f) text long short next s = wait-short o r w ws f single long short (short_text w f text.0 short)
  wait-word None None text long short next s = got-step w ws o r t _ refl text.1 single long short next s

wait-step : (w : Text) (ws : List Text) (o : Valued) (r : List Row) (t : ArgumentsView) (b : Bool) → AllText (w ∷ ws) → bytes_eq w (codes "--") ≡ b → AtClaim ws → Sim r t
    → Comes (waits o r false) (w ∷ ws) (after (Some o) (cond b (Some end_of_options) (long_met (long_of w) (short_of w))) t w ws (read ws))
wait-step w ws o r t true text is next s = turn (waits o r false) (waits o r true) w ws None (wait_dashes_turn r w o is) (wait_dashes_moves r w o is) (trails-wait ws o r)
wait-step w ws o r t false text is next s = wait-word w ws o r t is _ _ text refl refl next s

come : (ws : List Text) → AllText ws → AtClaim ws × WaitClaim ws
come [] text = (
  λ r q p t fine s. (fault-none (at (held r q) p false) ∙ ends r q ∙ fine, has-final r q t s),
  λ o r t s none. let e : InvalidValue ∷ [] ≡ [] = sym (fault-none (waits o r false) ∙ waits-ends o r false) ∙ none in cc,
)
come (w ∷ ws) text =
    let next = come ws text.1 in
    (λ r q p t fine s. at-step w ws r q p t _ text.0 refl next.0 next.1 fine s, λ o r t s. wait-step w ws o r t _ text refl next.0 s)

leaf : (words : List Text) (stop : Option (Text × List Text)) → level_fault top [] nothing_held words (is_some (entered (built app) stop)) (entered_fault (built app) stop) ≡ fault (walk_from nothing_held) words
leaf words None = refl
leaf words (Some p) = refl

-- clap takes the words exactly where they are of the form, and finds what they say
pub app-form : (ws : List Text) → AllText ws → MatchOption (read ws None nothing) (fault_of app ws ≡ [] → ⊥) (λ t. (fault_of app ws ≡ []) × Has (matches_of app ws) t)
app-form ws text = go (read ws None nothing) (leaf ws _) ((come ws text).0 [] None false nothing refl sim-start)
  where
    go : (o : Option ArgumentsView) → fault_of app ws ≡ fault (walk_from nothing_held) ws → Comes (at (held [] None) false false) ws o → MatchOption o (fault_of app ws ≡ [] → ⊥) (λ t. (fault_of app ws ≡ []) × Has (matches_of app ws) t)
    go None same h = λ none. h (sym same ∙ none)
    go (Some t) same h = (same ∙ h.0, h.1)
